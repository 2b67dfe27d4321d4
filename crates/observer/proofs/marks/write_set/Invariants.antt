use Rattle.std.proofs.Common.{◌≡◌, ℕ, ◌<◌, get_or}
use Rattle.sets.specs.Sets.{bit, member}
use Rattle.observer.proofs.marks.write_set.Given as goal

abbrev pub invariant-loop-s : goal.invariant-loop-s
invariant-loop-s l = (k : ℕ) → k < l.s → get_or l.marks k 0 ≡ bit (member l.set.bits k)
