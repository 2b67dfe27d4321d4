use Rattle.std.proofs.Common.{◌≡◌, ◌-◌, ◌++◌, length, take}
use Rattle.sensors.specs.Sets.{digits}
use Rattle.sensors.proofs.subsets.write.Given as goal

abbrev pub invariant-loop-mark : goal.invariant-loop-mark
invariant-loop-mark l = take l.mark-index l.marks ++ digits (length l.initial.marks - l.mark-index) l.rest ≡ digits (length l.initial.marks) l.set
