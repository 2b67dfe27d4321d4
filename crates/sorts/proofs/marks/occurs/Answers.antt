use Rattle.std.proofs.Common.{sym, ◌∙◌, arith}
use Rattle.sorts.proofs.Looking.{occurs_here, occurs_nowhere}
use Rattle.sorts.proofs.marks.occurs.Goals as goal

pub returns : goal.returns
returns c = sym (occurs_nowhere c.args.sort c.args.events.now (λ k h. c.loop-place.invariant k (omega (arith, h))))

pub returns-then-from-sort : goal.returns-then-from-sort
returns-then-from-sort c = sym (occurs_here c.args.sort c.args.events.now c.loop-place.place c.loop-place-test.true c.if-place-eq1.true (sym c.from.ensures ∙ c.if-from-sort.true))
