-- The numbers of the arrows that are no faults, an arrow at a time. Assumes nothing.
use Rattle.std.proofs.Common.{◌≡◌, ℕ, ◌+◌, ◌<◌, ◌≤◌, Bool, true, false, not, List, [], ◌∷◌, ◌++◌, length, get_or, take, sym, refl, ap, ◌∙◌, append_assoc, arith, length-append}
use Rattle.std.proofs.lemmas.List.{get_or-map, take_all, take_more}
use Rattle.plant.specs.declared.lent.Plant.{Plant as Lent}
use Rattle.plant.specs.declared.parts.Arrow.{Arrow}
use Rattle.plant.specs.declared.parts.Step.{Step}
use Rattle.plant.specs.Model.{model, steps, step_of, no_arrow, no_step, StepAt}
use Rattle.plant.proofs.Readings.{step_count}
use Rattle.foretelling.specs.Calm.{harmless, numbers}
use Rattle.foretelling.proofs.Calm.{harmless_left_out, harmless-kept, numbers-append}
use Rattle.predictability.specs.Calmed.{Leaving}

is_fault : (b : Bool) → not b ≡ false → b ≡ true
is_fault true e = refl
is_fault false e = sym e

is_none : (b : Bool) → not b ≡ true → b ≡ false
is_none true e = sym e
is_none false e = refl

module _ (p : Lent) where
  abbrev arrow_at : ℕ → Arrow
  arrow_at i = get_or (model p).arrows i no_arrow

  -- the step at a place is that of its arrow
  record OfArrow (i : ℕ) (x : Step) : Type 0 where
    there : i < length (model p).arrows
    is : x ≡ step_of (model p) (arrow_at i)
    more : take (i + 1) (model p).arrows ≡ take i (model p).arrows ++ (arrow_at i ∷ [])

  of_arrow : {i : ℕ} {x : Step} → StepAt p i x → OfArrow i x
  unfolding steps
  of_arrow {i} at =
      let h : i < length (model p).arrows = omega (arith, step_count p, at.there) in
      record { there = h; is = at.is ∙ get_or-map (step_of (model p)) (model p).arrows i no_arrow no_step h; more = take_more (model p).arrows i no_arrow h }

  pub leave_none : Leaving p 0 []
  unfolding harmless numbers
  leave_none = record { far = omega arith; short = omega arith; are = refl }

  pub leave_out : {i : ℕ} {x : Step} {kept : List ℕ} → StepAt p i x → not x.fault ≡ false → Leaving p i kept → Leaving p (i + 1) kept
  leave_out {i} at f w =
      let o = of_arrow at in
      record {
        far = omega (arith, o.there);
        short = omega (arith, w.short);
        are = w.are ∙ ap numbers (sym (harmless_left_out (model p) (take i (model p).arrows) (arrow_at i) (sym (ap (λ (y : Step). y.fault) o.is) ∙ is_fault _ f)) ∙ ap (harmless (model p)) (sym o.more));
      }

  pub leave_in : {i : ℕ} {x : Step} {kept : List ℕ} → StepAt p i x → not x.fault ≡ true → Leaving p i kept → Leaving p (i + 1) (((kept ++ (x.from ∷ [])) ++ (x.event ∷ [])) ++ (x.to ∷ []))
  leave_in {i} {x} {kept} at f w =
      let o = of_arrow at in
      let a = arrow_at i in
      let before = take i (model p).arrows in
      let three : ◌≡◌ {A = List ℕ} (x.from ∷ x.event ∷ x.to ∷ []) (a.from ∷ a.event ∷ a.to ∷ []) = ap (λ (y : Step). y.from ∷ y.event ∷ y.to ∷ []) o.is in
      let whole : ((kept ++ (x.from ∷ [])) ++ (x.event ∷ [])) ++ (x.to ∷ []) ≡ kept ++ (x.from ∷ x.event ∷ x.to ∷ []) = simp append_assoc in
      let more = harmless-kept (model p) before a (sym (ap (λ (y : Step). y.fault) o.is) ∙ is_none _ f) in
      record {
        far = omega (arith, o.there);
        short = omega (arith, w.short, ap length whole, length-append kept (x.from ∷ x.event ∷ x.to ∷ []));
        are = whole ∙ ap (λ (l : List ℕ). l ++ (x.from ∷ x.event ∷ x.to ∷ [])) w.are ∙ ap (λ (l : List ℕ). numbers (harmless (model p) before) ++ l) three ∙ sym (numbers-append (harmless (model p) before) a) ∙ ap numbers (sym more ∙ ap (harmless (model p)) (sym o.more));
      }

  pub leave_all : {i : ℕ} {kept : List ℕ} → Leaving p i kept → length (steps p) ≤ i → kept ≡ numbers (harmless (model p) (model p).arrows)
  leave_all {i} w h = w.are ∙ ap (λ (l : List Arrow). numbers (harmless (model p) l)) (take_all i (model p).arrows (omega (arith, step_count p)))
