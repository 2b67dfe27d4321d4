use Rattle.plant.proofs.Judged.{not_both}
use Rattle.plant.proofs.theorems.not_both.Goals as goal

pub returns : goal.returns
returns c = not_both
