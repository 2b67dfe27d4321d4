use Rattle.plant.proofs.Worked.{told_out, hidden_hides}
use Rattle.plant.proofs.theorems.worked_plants.Goals as goal

pub returns : goal.returns
returns c = record { told = told_out; hidden = hidden_hides }
