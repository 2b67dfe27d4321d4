use Rattle.plant.proofs.Judged.{hidden_fits}
use Rattle.plant.proofs.theorems.hidden_fits.Goals as goal

pub returns : goal.returns
returns c = hidden_fits
