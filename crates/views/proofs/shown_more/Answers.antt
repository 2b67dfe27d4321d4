use Rattle.views.proofs.Showing.{shown_more}
use Rattle.views.proofs.shown_more.Goals as goal

pub returns : goal.returns
returns c = shown_more
