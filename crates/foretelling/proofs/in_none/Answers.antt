use Rattle.foretelling.proofs.Alarms.{in_none}
use Rattle.foretelling.proofs.in_none.Goals as goal

pub returns : goal.returns
returns c = in_none
