use Rattle.std.proofs.Common.{arith}
use Rattle.std.proofs.lemmas.Bool.Decides.{nat_tests}
use Rattle.plant.specs.Refusals.{arrows_refusal}
use Rattle.plant.proofs.lent.checks.check_arrows.Goals as goal

pub returns-then-arrows-gt-MOST_ARROW_NUMBERS : goal.returns-then-arrows-gt-MOST_ARROW_NUMBERS
unfolding arrows_refusal
returns-then-arrows-gt-MOST_ARROW_NUMBERS c = grind (arith, nat_tests)

pub returns-then-rest-ne0 : goal.returns-then-rest-ne0
unfolding arrows_refusal
returns-then-rest-ne0 c = grind (arith, nat_tests)

pub returns-in-Some : goal.returns-in-Some
unfolding arrows_refusal
returns-in-Some c = let found = c.in-Some.ensures in grind (arith, nat_tests)

pub returns-in-None : goal.returns-in-None
unfolding arrows_refusal
returns-in-None c = let found = c.in-None.ensures in grind (arith, nat_tests)
