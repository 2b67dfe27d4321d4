use Rattle.std.proofs.Common.{arith, rules}
use Rattle.sensors.proofs.Choosing.{none_does}
use Rattle.sensors.proofs.Fitting.{fitted}
use Rattle.sensors.proofs.selection.Selection.cheapest.Goals as goal

pub returns-then-not-does : goal.returns-then-not-does
returns-then-not-does c = none_does c.args.self c.if-not-does.ensures

pub overflow_cast-set-end : goal.overflow_cast-set-end
overflow_cast-set-end c = omega (arith, (fitted c.args.self).few)

pub overflow_shl-set-end : goal.overflow_shl-set-end
overflow_shl-set-end c = omega (arith, (fitted c.args.self).few)

pub returns : goal.returns
returns c = let few = (fitted c.args.self).few in search rules
