use Rattle.foretelling.proofs.Decided.{foretold_or_missed}
use Rattle.foretelling.proofs.foretold_or_missed.Goals as goal

pub returns : goal.returns
returns c = foretold_or_missed
