use Rattle.plant.proofs.Valid.{refused_or_valid}
use Rattle.plant.proofs.theorems.refused_or_valid.Goals as goal

pub returns : goal.returns
returns c = refused_or_valid
