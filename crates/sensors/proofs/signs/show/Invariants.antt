use Rattle.std.proofs.Common.{length, take}
use Rattle.sensors.specs.Candidates.{chosen}
use Rattle.sensors.specs.Signs.{Signed}
use Rattle.sensors.proofs.signs.show.Given as goal

abbrev pub invariant-loop-candidate : goal.invariant-loop-candidate
invariant-loop-candidate l = Signed l.initial.events (chosen (take (length l.yielded) l.candidates) l.marks) l.events
