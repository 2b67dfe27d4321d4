use Rattle.foretelling.proofs.Alarms.{unwarned}
use Rattle.foretelling.proofs.unwarned.Goals as goal

pub returns : goal.returns
returns c = unwarned
