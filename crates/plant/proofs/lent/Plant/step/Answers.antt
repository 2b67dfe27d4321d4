use Rattle.std.proofs.Common.{◌≤◌, length, arith}
use Rattle.plant.specs.Model.{steps}
use Rattle.plant.proofs.Readings.{step_count, step_made}
use Rattle.plant.proofs.lent.Plant.step.Goals as goal

pub returns-in_err-arrow : goal.returns-in_err-arrow
returns-in_err-arrow c =
    let past : length (steps c.args.self) ≤ c.args.i = omega (arith, step_count c.args.self, c.in_err-arrow.ensures) in
    rw c.from_residual.ensures past

pub returns : goal.returns
returns c = step_made c.args.self c.args.i c.in_ok-arrow.arrow c.in_ok-event.event c.in_ok-arrow.ensures c.in_ok-event.ensures.is
