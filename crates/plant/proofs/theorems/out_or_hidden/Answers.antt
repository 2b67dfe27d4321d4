use Rattle.plant.proofs.Judged.{out_or_hidden}
use Rattle.plant.proofs.theorems.out_or_hidden.Goals as goal

pub returns : goal.returns
returns c = out_or_hidden
