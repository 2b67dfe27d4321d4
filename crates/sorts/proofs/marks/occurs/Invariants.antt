use Rattle.std.proofs.Common.{◌≡◌, ℕ, ◌%◌, ◌<◌, get_or}
use Rattle.sorts.proofs.marks.occurs.Given as goal

-- no mark so far is of the sort
abbrev pub invariant-loop-place : goal.invariant-loop-place
invariant-loop-place l = (k : ℕ) → k < l.place → k % 2 ≡ 1 → get_or l.events k 0 ≡ l.sort → ⊥
