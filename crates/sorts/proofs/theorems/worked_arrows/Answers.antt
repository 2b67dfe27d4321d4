use Rattle.std.proofs.Common.{refl}
use Rattle.plant.specs.Numbers.{arrows_in}
use Rattle.sorts.specs.Theorems.{arrows_of}
use Rattle.sorts.proofs.theorems.worked_arrows.Goals as goal

pub returns : goal.returns
unfolding arrows_of arrows_in
returns c = record { first = refl; second = refl }
