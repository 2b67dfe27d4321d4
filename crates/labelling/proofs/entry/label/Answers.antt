use Rattle.std.proofs.Common.{◌≡◌, ℕ, ◌/◌, List, length, take, sym, ◌∙◌, ap, subst, arith}
use Rattle.plant.specs.Checked.{behaviour}
use Rattle.outcome.proofs.Passed.{nothing}
use Rattle.labelling.specs.Labels.{FewestSigns}
use Rattle.labelling.proofs.Fitting.{tried}
use Rattle.labelling.proofs.entry.label.Goals as goal

pub invariant_of-trials : goal.invariant_of-trials
invariant_of-trials c =
    let n = c.args.numbers in
    let fit = tried _ _ _ _ (nothing _ c.in_ok-check.ensures) in
    record { few = fit.1; valid = fit.2 }

pub write-requires : goal.write-requires
write-requires c =
    let n = c.args.numbers in
    let fit = tried _ _ _ _ (nothing _ c.in_ok-check.ensures) in
    omega (arith, fit.0, fit.1)

pub returns : goal.returns
returns c =
    let n = c.args.numbers in
    let none = nothing _ c.in_ok-check.ensures in
    let long = (tried n.states n.arrows.now n.events.now (length c.args.signs.now) none).0 in
    let row : c.write.new.row ≡ take (length n.events.now / 2) c.in-Some.best.labels = c.write.ensures ∙ ap (λ (k : ℕ). take k c.in-Some.best.labels) long in
    (none, subst (λ (ls : List ℕ). FewestSigns (behaviour n) (length n.events.now / 2) ls c.in-Some.best.signs) (sym row) c.in-Some.ensures)
