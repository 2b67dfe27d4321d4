use Rattle.std.proofs.Common.{◌≡◌, length, take}
use Rattle.sorts.specs.Sorts.{marked_by}
use Rattle.sorts.proofs.held.Marked.new.Given as goal

-- the numbers so far are marked
abbrev pub invariant-loop-place : goal.invariant-loop-place
invariant-loop-place l = (length l.numbers ≡ 129) × (take l.place l.numbers ≡ take l.place (marked_by l.faults l.events))
