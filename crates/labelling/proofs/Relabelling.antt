-- Events with other signs, and what is found of a plant so labelled. Assumes nothing.
use Rattle.std.proofs.Common.{◌≡◌, ℕ, zero, suc, ◌+◌, ◌*◌, ◌/◌, ◌%◌, ◌<◌, ◌≤◌, Bool, cond, true, false, eqb, List, length, get_or, take, None, MatchBool, sym, refl, ap, ◌∙◌, ⊎_elim, arith, length-take}
use denote.Param.Members.{Mut, Called}
use Rattle.std.specs.Array.{IsFromFnResultFrom, IsFromFnResult}
use Rattle.std.proofs.lemmas.List.{get_or_past, get_or-take}
use Rattle.std.proofs.lemmas.Bool.{cases_lt, cases_eq}
use Rattle.plant.specs.Numbers.{plant_in}
use Rattle.plant.specs.Plant.{Plant, ComesOut}
use Rattle.plant.specs.Refusals.{refusal}
use Rattle.plant.specs.Validity.{Valid}
use Rattle.outcome.proofs.Changed as changed
use Rattle.views.proofs.Finer.{finer_out}
use Rattle.labelling.specs.Labels.{Does, labelled}
use Rattle.labelling.specs.Trials.{Written}

-- what `from_fn` makes of a closure that stays as it is
made_from : {F : Type 0} {g : Mut F (ℕ × Unit {0}) ℕ} {f : F} (h : ℕ → ℕ) (ys : List ℕ) → ((k y : ℕ) (q : F) → Called g f (k, tt) y q → (q ≡ f) × (y ≡ h k))
    → (i n : ℕ) → IsFromFnResultFrom g f ys i n → (k : ℕ) → i ≤ k → k < i + n → get_or ys k 0 ≡ h k
made_from h ys same i zero each k le lt = absurd (omega arith)
made_from {f = f} h ys same i (suc n) each k le lt =
    let call = same i each.1 each.0 each.3 in
    let rest = rw call.0 at each.4 in
    ⊎_elim (λ eq. ap (λ (j : ℕ). get_or ys j 0) eq ∙ each.2.1 0 ∙ call.1 ∙ ap h (sym eq)) (λ ne. made_from h ys same (i + 1) n rest k (omega arith) (omega arith)) (cases_eq k i)

pub made : {F : Type 0} {g : Mut F (ℕ × Unit {0}) ℕ} {f : F} (h : ℕ → ℕ) (ys : List ℕ) (n : ℕ) → IsFromFnResult g f ys n → ((k y : ℕ) (q : F) → Called g f (k, tt) y q → (q ≡ f) × (y ≡ h k)) → (k : ℕ) → k < n → get_or ys k 0 ≡ h k
made h ys n r same k lt = made_from h ys same 0 n r.each k (omega arith) (omega arith)

-- place by place
pub written : (es row es₁ : List ℕ) → length es ≤ 128 → length row ≡ 64 → length es₁ ≡ 128
    → ((k : ℕ) → k < 128 → get_or es₁ k 0 ≡ cond (eqb (k % 2) 0) (get_or row (k / 2) 0) (get_or es k 0)) → Written es row es₁
written es row es₁ few long size at = record {
  signs = λ e.
      ⊎_elim (λ lt. let even : (2 * e) % 2 ≡ 0 = omega arith in let half : (2 * e) / 2 ≡ e = omega arith in rw (even, half) at (at (2 * e) (omega arith)))
      (λ le. get_or_past es₁ (2 * e) 0 (omega arith) ∙ sym (get_or_past row e 0 (omega arith))) (cases_lt e 64);
  marks = λ e.
      ⊎_elim (λ lt. let odd : (2 * e + 1) % 2 ≡ 1 = omega arith in rw odd at (at (2 * e + 1) (omega arith)))
      (λ le. get_or_past es₁ (2 * e + 1) 0 (omega arith) ∙ sym (get_or_past es (2 * e + 1) 0 (omega arith))) (cases_lt e 64);
}

-- numbers past the events are 0, so they can be left out
pub take_same : (m : ℕ) (row : List ℕ) → ((e : ℕ) → m ≤ e → get_or row e 0 ≡ 0) → (e : ℕ) → get_or (take m row) e 0 ≡ get_or row e 0
take_same m row past e =
    ⊎_elim (λ lt. get_or-take m row e 0 lt) (λ le. get_or_past (take m row) e 0 (omega (arith, length-take m row)) ∙ sym (past e le)) (cases_lt e m)

-- two rows that show the same of each event do the same
pub does_as : (p q : Plant) → q.arrows ≡ p.arrows → ((e : ℕ) → q.fault e ≡ p.fault e) → ((e : ℕ) → q.shows e ≡ p.shows e) → ComesOut p → ComesOut q
unfolding ComesOut
does_as p q arrows faults shows out = (
  out.0,
  finer_out p q out.0
      (record {
        arrows = arrows;
        faults = faults;
        nothing = λ e z. sym (shows e) ∙ z;
        alike = λ e d s. sym (shows e) ∙ s ∙ shows d;
      })
      out.1,
)

module _ (n : ℕ) (xs es row events : List ℕ) (v : Valid n xs es) (size : length events ≡ 128) (small : (e : ℕ) → get_or row e 0 ≤ 255) (w : Written es row events) where
  pub accepted : refusal n xs events ≡ None
  accepted = changed.accepted n xs es events v size (λ e. omega (arith, w.signs e, small e)) w.marks

  pub decided : (m : ℕ) (r : Bool) → ((e : ℕ) → m ≤ e → get_or row e 0 ≡ 0) → MatchBool r (ComesOut (plant_in xs events)) (ComesOut (plant_in xs events) → ⊥)
      → MatchBool r (Does (plant_in xs es) (take m row)) (Does (plant_in xs es) (take m row) → ⊥)
  unfolding plant_in
  decided m true past out =
      does_as (plant_in xs events) (labelled (plant_in xs es) (take m row)) refl (λ e. ap (λ (k : ℕ). eqb k 1) (sym (w.marks e))) (λ e. take_same m row past e ∙ sym (w.signs e)) out
  decided m false past not-out = λ out.
      not-out (does_as (labelled (plant_in xs es) (take m row)) (plant_in xs events) refl (λ e. ap (λ (k : ℕ). eqb k 1) (w.marks e)) (λ e. w.signs e ∙ sym (take_same m row past e)) out)
