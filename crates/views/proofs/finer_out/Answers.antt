use Rattle.views.proofs.Finer.{finer_out}
use Rattle.views.proofs.finer_out.Goals as goal

pub returns : goal.returns
returns c = finer_out
