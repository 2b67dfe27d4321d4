use Rattle.std.proofs.Common.{◌≡◌, ℕ, List, length, sym, ◌∙◌, ap, subst}
use Rattle.plant.specs.Checked.{behaviour}
use Rattle.outcome.proofs.Passed.{nothing}
use Rattle.sensors.specs.declared.selection.Selection.{Selection}
use Rattle.sensors.specs.Choice.{CheapestSet}
use Rattle.sensors.specs.Sets.{digits}
use Rattle.sensors.proofs.Choosing.{cheapest}
use Rattle.sensors.proofs.Fitting.{selected}
use Rattle.sensors.proofs.entry.choose.Goals as goal

pub invariant_of-selection : goal.invariant_of-selection
invariant_of-selection c =
    let n = c.args.numbers in
    record { fit = (selected _ _ _ _ _ _ (nothing _ c.in_ok-check.ensures)).1 }

pub returns : goal.returns
returns c =
    let n = c.args.numbers in
    let none = nothing _ c.in_ok-check.ensures in
    let fit = selected n.states n.arrows.now n.events.now c.args.candidates.now c.args.prices.now (length c.args.marks.now) none in
    let selection : Selection = record { numbers = n; candidates = c.args.candidates; prices = c.args.prices; fit = fit.1 } in
    let marks : c.write.new.marks ≡ digits (length c.args.candidates.now) c.in-Some.best.set = c.write.ensures ∙ ap (λ (k : ℕ). digits k c.in-Some.best.set) fit.0 in (
      none,
      subst (λ (ms : List ℕ). CheapestSet (behaviour n) c.args.candidates.now c.args.prices.now ms c.in-Some.best.sum) (sym marks) (cheapest selection c.in-Some.best c.in-Some.ensures),
    )
