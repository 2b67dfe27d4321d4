use Rattle.std.proofs.Common.{arith}
use Rattle.sensors.proofs.Fitting.{fitted}
use Rattle.sensors.proofs.selection.Selection.grow.Goals as goal

pub overflow_cast-more : goal.overflow_cast-more
overflow_cast-more c = omega (arith, (fitted c.args.self).few)

pub overflow_shl-more : goal.overflow_shl-more
overflow_shl-more c = omega (arith, (fitted c.args.self).few)
