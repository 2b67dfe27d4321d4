use Rattle.views.proofs.Finer.{renaming}
use Rattle.views.proofs.renaming.Goals as goal

pub returns : goal.returns
returns c = renaming
