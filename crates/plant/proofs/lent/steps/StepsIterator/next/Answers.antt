use Rattle.std.proofs.Common.{length, arith, rules, ap}
use Rattle.plant.proofs.Readings.{few_steps, steps_over, steps_next}
use Rattle.plant.proofs.lent.steps.StepsIterator.next.Goals as goal

pub returns-in_err-step-clause-steps : goal.returns-in_err-step-clause-steps
returns-in_err-step-clause-steps c =
    let over = steps_over c.args.self.now c.in_err-step.ensures in
    rw c.from_residual.ensures (over, over)

pub overflow_add-self : goal.overflow_add-self
overflow_add-self c = omega (arith, few_steps c.args.self.now.plant, c.in_ok-step.ensures.there)

pub returns-clause-steps : goal.returns-clause-steps
returns-clause-steps c = steps_next c.args.self.now c.in_ok-step.ensures

pub returns-clause-goes : goal.returns-clause-goes
returns-clause-goes c = let same = ap length (steps_next c.args.self.now c.in_ok-step.ensures) in search rules
