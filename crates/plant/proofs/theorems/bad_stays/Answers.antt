use Rattle.plant.proofs.Known.{bad_stays}
use Rattle.plant.proofs.theorems.bad_stays.Goals as goal

pub returns : goal.returns
returns c = bad_stays
