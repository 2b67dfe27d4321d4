use Rattle.foretelling.proofs.Alarms.{last_moment}
use Rattle.foretelling.proofs.last_moment.Goals as goal

pub returns : goal.returns
returns c = last_moment
