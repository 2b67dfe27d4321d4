use Rattle.std.proofs.Common.{arith}
use Rattle.plant.proofs.Readings.{arrow_count, arrow_read}
use Rattle.plant.proofs.lent.Plant.arrow.Goals as goal

pub returns-then-i-self : goal.returns-then-i-self
returns-then-i-self c = omega (arith, arrow_count c.args.self)

pub returns : goal.returns
returns c = arrow_read c.args.self c.args.i c.if-i-self.false
