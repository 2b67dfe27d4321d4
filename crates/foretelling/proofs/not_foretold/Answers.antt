use Rattle.foretelling.proofs.Alarms.{not_foretold}
use Rattle.foretelling.proofs.not_foretold.Goals as goal

pub returns : goal.returns
returns c = not_foretold
