use Rattle.std.proofs.Common.{arith}
use Rattle.std.proofs.lemmas.Bool.Decides.{nat_tests}
use Rattle.observer.specs.Refusals.{sign_refusal}
use Rattle.observer.proofs.entry.check_sign.Goals as goal

pub returns-then-sign-gt255 : goal.returns-then-sign-gt255
unfolding sign_refusal
returns-then-sign-gt255 c = grind (arith, nat_tests)

pub returns : goal.returns
unfolding sign_refusal
returns c = grind (arith, nat_tests)
