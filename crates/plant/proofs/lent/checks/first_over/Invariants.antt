use Rattle.std.proofs.Common.{◌≡◌, ◌%◌, ◌<◌, length, drop}
use Rattle.plant.specs.Refusals.{first_over}
use Rattle.plant.proofs.lent.checks.first_over.Given as goal

-- the places so far were below their limits
abbrev pub invariant-loop-i : goal.invariant-loop-i
invariant-loop-i g l =
    (l.place ≡ l.i % length l.limits) × (l.place < length l.limits)
    × (first_over l.limits 0 l.numbers ≡ first_over l.limits l.i (drop l.i l.numbers))
