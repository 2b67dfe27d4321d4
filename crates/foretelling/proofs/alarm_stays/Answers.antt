use Rattle.foretelling.proofs.Alarms.{alarm_stays}
use Rattle.foretelling.proofs.alarm_stays.Goals as goal

pub returns : goal.returns
returns c = alarm_stays
