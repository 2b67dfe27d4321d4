use Rattle.views.proofs.Showing.{shown_some}
use Rattle.views.proofs.shown_some.Goals as goal

pub returns : goal.returns
returns c = shown_some
