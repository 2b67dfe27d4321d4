use Rattle.std.proofs.Common.{arith}
use Rattle.std.proofs.lemmas.Bool.Decides.{nat_tests}
use Rattle.plant.specs.Refusals.{states_refusal}
use Rattle.plant.proofs.lent.checks.check_states.Goals as goal

pub returns-then-states-lt1 : goal.returns-then-states-lt1
unfolding states_refusal
returns-then-states-lt1 c = let either = c.then-states-lt1.either in grind (arith, nat_tests)

pub returns : goal.returns
unfolding states_refusal
returns c = grind (arith, nat_tests)
