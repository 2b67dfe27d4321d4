use Rattle.std.proofs.Common.{◌≡◌, ℕ, ◌&&◌, eqb, ltb, get_or}
use Rattle.sets.specs.Sets.{member}
use Rattle.observer.proofs.marks.read_set.Given as goal

abbrev pub invariant-loop-s : goal.invariant-loop-s
invariant-loop-s l = (k : ℕ) → member l.set.bits k ≡ (ltb k l.s && eqb (get_or l.marks k 0) 1)
