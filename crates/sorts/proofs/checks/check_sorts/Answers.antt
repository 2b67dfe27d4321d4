use Rattle.std.proofs.Common.{sym}
use Rattle.sorts.specs.Refusals.{marks_refusal}
use Rattle.sorts.proofs.checks.check_sorts.Goals as goal

pub returns-in-Some : goal.returns-in-Some
unfolding marks_refusal
returns-in-Some c = rw (sym c.in-Some.ensures)

pub returns-in-None : goal.returns-in-None
unfolding marks_refusal
returns-in-None c = rw (sym c.in-None.ensures) c.check_asked.ensures
