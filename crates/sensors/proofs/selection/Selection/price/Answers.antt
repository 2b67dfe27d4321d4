use Rattle.std.proofs.Common.{arith}
use Rattle.sensors.proofs.Fitting.{fitted}
use Rattle.sensors.proofs.selection.Selection.price.Goals as goal

pub total-requires : goal.total-requires
total-requires c =
    let fit = fitted c.args.self in
    record {
      few = omega (arith, fit.few, fit.priced);
      marked = omega (arith, fit.few, fit.priced);
      cheap = λ i h. fit.cheap i (omega (arith, fit.priced));
    }
