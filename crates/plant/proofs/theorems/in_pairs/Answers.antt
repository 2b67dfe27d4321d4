use Rattle.plant.proofs.Judged.{in_pairs}
use Rattle.plant.proofs.theorems.in_pairs.Goals as goal

pub returns : goal.returns
returns c = in_pairs
