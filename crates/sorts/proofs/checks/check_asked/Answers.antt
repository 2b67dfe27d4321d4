use Rattle.std.proofs.Common.{arith}
use Rattle.std.proofs.lemmas.Bool.Decides.{nat_tests}
use Rattle.sorts.specs.Refusals.{asked_refusal}
use Rattle.sorts.proofs.checks.check_asked.Goals as goal

pub returns-then-sort-lt1 : goal.returns-then-sort-lt1
unfolding asked_refusal
returns-then-sort-lt1 c = let either = c.then-sort-lt1.either in rw c.in-Sort.is (grind (arith, nat_tests))

pub returns-in-Any : goal.returns-in-Any
unfolding asked_refusal
returns-in-Any c = rw c.in-Any.is

pub returns-else-sort-gt-MOST_SORTS : goal.returns-else-sort-gt-MOST_SORTS
unfolding asked_refusal
returns-else-sort-gt-MOST_SORTS c = rw c.in-Sort.is (grind (arith, nat_tests))
