use Rattle.std.proofs.Common.{◌≡◌, map}
use Rattle.picture.specs.Pictures.{arrow_of}
use Rattle.picture.proofs.runs.mark_run.Given as goal

abbrev pub invariant-loop-event : goal.invariant-loop-event
invariant-loop-event l = map arrow_of l.edges ≡ map arrow_of l.initial.edges
