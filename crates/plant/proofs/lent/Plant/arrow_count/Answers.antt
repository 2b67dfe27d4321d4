use Rattle.std.proofs.Common.{sym}
use Rattle.plant.proofs.Readings.{arrow_count}
use Rattle.plant.proofs.lent.Plant.arrow_count.Goals as goal

pub returns : goal.returns
returns c = sym (arrow_count c.args.self)
