use Rattle.std.proofs.Common.{◌≡◌, [], ◌∷◌, sym, ◌∙◌, arith}
use Rattle.std.proofs.lemmas.Bool.Decides.{nat_tests}
use Rattle.plant.specs.Refusals.{first_over}
use Rattle.observer.proofs.Turned.{first_above}
use Rattle.observer.specs.Refusals.{marks_refusal}
use Rattle.observer.proofs.entry.check_marks.Goals as goal
use Rattle.observer.proofs.entry.check_marks.Goals.{then-length-ne0-via-then-length-ne0, then-length-ne0-via-else-length-ne0+then-length-states}

pub returns-then-length-ne0 : goal.returns-then-length-ne0
unfolding marks_refusal
returns-then-length-ne0 c =
    elim c.then-length-ne0.branch [
      | then-length-ne0-via-then-length-ne0 w ↦ grind (arith, nat_tests)
      | then-length-ne0-via-else-length-ne0+then-length-states w ↦ grind (arith, nat_tests)
    ]

pub returns-in-Some : goal.returns-in-Some
unfolding marks_refusal
returns-in-Some c =
    let found : c.first_above_one.result ≡ first_over (2 ∷ []) 0 c.args.marks.now = c.first_above_one.ensures ∙ sym (first_above c.args.marks.now) in
    grind (arith, nat_tests)

pub returns-in-None : goal.returns-in-None
unfolding marks_refusal
returns-in-None c =
    let found : c.first_above_one.result ≡ first_over (2 ∷ []) 0 c.args.marks.now = c.first_above_one.ensures ∙ sym (first_above c.args.marks.now) in
    grind (arith, nat_tests)
