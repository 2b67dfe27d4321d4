use Rattle.plant.proofs.Decided.{known_one_all}
use Rattle.plant.proofs.theorems.known_one.Goals as goal

pub returns : goal.returns
returns c = known_one_all
