use Rattle.std.proofs.Common.{arith}
use Rattle.std.proofs.lemmas.Bool.Decides.{nat_tests}
use Rattle.diagnosability.specs.Verdict.{room_refusal}
use Rattle.diagnosability.proofs.checks.check_room.Goals as goal

pub returns-then-room-states : goal.returns-then-room-states
unfolding room_refusal
returns-then-room-states c = grind (arith, nat_tests)

pub returns : goal.returns
unfolding room_refusal
returns c = grind (arith, nat_tests)
