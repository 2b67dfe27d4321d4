use Rattle.std.proofs.Common.{refl}
use Rattle.plant.specs.Model.{steps_left}
use Rattle.plant.proofs.lent.Plant.steps.Goals as goal

pub returns : goal.returns
unfolding steps_left
returns c = refl
