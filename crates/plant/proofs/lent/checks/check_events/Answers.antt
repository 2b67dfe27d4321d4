use Rattle.std.proofs.Common.{arith}
use Rattle.std.proofs.lemmas.Bool.Decides.{nat_tests}
use Rattle.plant.specs.Refusals.{events_refusal}
use Rattle.plant.proofs.lent.checks.check_events.Goals as goal

pub returns-then-events-gt-MOST_EVENT_NUMBERS : goal.returns-then-events-gt-MOST_EVENT_NUMBERS
unfolding events_refusal
returns-then-events-gt-MOST_EVENT_NUMBERS c = grind (arith, nat_tests)

pub returns-then-events-ne0 : goal.returns-then-events-ne0
unfolding events_refusal
returns-then-events-ne0 c = grind (arith, nat_tests)

pub returns-in-Some : goal.returns-in-Some
unfolding events_refusal
returns-in-Some c = let found = c.in-Some.ensures in grind (arith, nat_tests)

pub returns-in-None : goal.returns-in-None
unfolding events_refusal
returns-in-None c = let found = c.in-None.ensures in grind (arith, nat_tests)
