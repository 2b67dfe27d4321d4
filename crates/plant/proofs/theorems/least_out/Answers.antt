use Rattle.plant.proofs.Judged.{least_out}
use Rattle.plant.proofs.theorems.least_out.Goals as goal

pub returns : goal.returns
returns c = least_out
