-- Nothing is turned away if and only if it fits. Assumes nothing.
use Rattle.std.proofs.Common.{◌≡◌, ℕ, zero, suc, ◌+◌, ◌-◌, ◌/◌, ◌≤◌, Bool, true, false, cond, not, eqb, List, ◌∷◌, length, Some, None, is_some, refl, ap, ◌∙◌, add-one, arith}
use Rattle.std.specs.List.{filter, range_with_len, slice_get}
use Rattle.std.proofs.lemmas.Bool.{eqb-true, eqb-false, eq-eqb, ne_eqb}
use Rattle.plant.specs.declared.parts.Refusal.TheVariants.{Labelling}
use Rattle.plant.specs.Refusals.{refusal}
use Rattle.plant.specs.Validity.{Valid}
use Rattle.outcome.proofs.Passed.{none_by}
use Rattle.labelling.specs.declared.trials.Trials.{Trials}
use Rattle.plant.proofs.Valid.{or_else_none, mapped_none, passed, failed, refused_or_valid}
use Rattle.labelling.specs.Refused.{fault_in, sound_after, sound_events, row_refusal, labelling_refusal, Fit, RefusedOrFit}

-- the one that comes after so many others, in the list of those that are no faults
pub nth_sound : (fault : ℕ → Bool) (many e n : ℕ) → slice_get (filter (λ k. not (fault k)) (range_with_len e n)) many ≡ sound_after fault many e n
unfolding sound_after
nth_sound fault many e zero = refl
nth_sound fault many e (suc n) = by_fault (fault e) many (λ m. nth_sound fault m (e + 1) n ∙ ap (λ (k : ℕ). sound_after fault m k n) (add-one e))
  where
    by_fault : (b : Bool) (m : ℕ) → ((k : ℕ) → slice_get (filter (λ j. not (fault j)) (range_with_len (e + 1) n)) k ≡ sound_after fault k (suc e) n)
        → slice_get (cond (not b) (e ∷ filter (λ j. not (fault j)) (range_with_len (e + 1) n)) (filter (λ j. not (fault j)) (range_with_len (e + 1) n))) m
        ≡ cond b (sound_after fault m (suc e) n) (cond (eqb m 0) (Some e) (sound_after fault (m - 1) (suc e) n))
    by_fault true m below = below m
    by_fault false zero below = refl
    by_fault false (suc m) below = let less : m ≡ suc m - 1 = omega arith in rw (ne_eqb (suc m) 0 (λ z. omega arith)) (below m ∙ ap (λ (k : ℕ). sound_after fault k (suc e) n) less)

-- there is none just where there are few
none_few : (fault : ℕ → Bool) (many e n : ℕ) → sound_after fault many e n ≡ None → sound_events fault e n ≤ many
unfolding sound_after sound_events
none_few fault many e zero h = omega arith
none_few fault many e (suc n) h = by_fault (fault e) h (λ k. none_few fault k (suc e) n)
  where
    by_fault : (b : Bool) → cond b (sound_after fault many (suc e) n) (cond (eqb many 0) (Some e) (sound_after fault (many - 1) (suc e) n)) ≡ None
        → ((k : ℕ) → sound_after fault k (suc e) n ≡ None → sound_events fault (suc e) n ≤ k) → cond b 0 1 + sound_events fault (suc e) n ≤ many
    by_fault true h below = omega (arith, below many h)
    by_fault false h below =
        let r = failed (eqb many 0) (sound_after fault (many - 1) (suc e) n) e h in
        let le = below (many - 1) r.1 in
        let some = eqb-false many 0 r.0 in
        omega arith

few_none : (fault : ℕ → Bool) (many e n : ℕ) → sound_events fault e n ≤ many → sound_after fault many e n ≡ None
unfolding sound_after sound_events
few_none fault many e zero h = refl
few_none fault many e (suc n) h = by_fault (fault e) h (λ k. few_none fault k (suc e) n)
  where
    by_fault : (b : Bool) → cond b 0 1 + sound_events fault (suc e) n ≤ many → ((k : ℕ) → sound_events fault (suc e) n ≤ k → sound_after fault k (suc e) n ≡ None)
        → cond b (sound_after fault many (suc e) n) (cond (eqb many 0) (Some e) (sound_after fault (many - 1) (suc e) n)) ≡ None
    by_fault true h below = below many (omega arith)
    by_fault false h below = rw (ne_eqb many 0 (λ z. omega arith)) (below (many - 1) (omega arith))

row_fits : (es : List ℕ) (row : ℕ) → row_refusal es row ≡ None → (row ≡ length es / 2) × (sound_events (fault_in es) 0 (length es / 2) ≤ 6)
unfolding row_refusal
row_fits es row h =
    let long = passed (eqb row (length es / 2)) _ _ h in
    (eqb-true row (length es / 2) long.0, none_few (fault_in es) 6 0 (length es / 2) (mapped_none Labelling _ long.1))

fits-row : (es : List ℕ) (row : ℕ) → row ≡ length es / 2 → sound_events (fault_in es) 0 (length es / 2) ≤ 6 → row_refusal es row ≡ None
unfolding row_refusal
fits-row es row long few = rw (eq-eqb row (length es / 2) long, few_none (fault_in es) 6 0 (length es / 2) few) refl

pub refused_or_fit : RefusedOrFit
refused_or_fit n xs es row = (fits, none)
  where
    fits : labelling_refusal n xs es row ≡ None → Fit n xs es row
    fits h =
        let both = or_else_none (refusal n xs es) _ h in
        let r = row_fits es row both.1 in
        record { valid = (refused_or_valid n xs es).0 both.0; long = r.0; few = r.1 }

    none : Fit n xs es row → labelling_refusal n xs es row ≡ None
    none fit = rw ((refused_or_valid n xs es).1 fit.valid) (fits-row es row fit.long fit.few)

-- what the numbers of trials keep to
pub valid_of : (t : Trials) → Valid t.numbers.states t.numbers.arrows.now t.numbers.events.now
valid_of t = (refused_or_valid t.numbers.states t.numbers.arrows.now t.numbers.events.now).0 (none_by _ t.valid)

-- numbers that are not turned away make trials
pub tried : (n : ℕ) (xs es : List ℕ) (row : ℕ) → labelling_refusal n xs es row ≡ None → (row ≡ length es / 2) × (length es ≤ 128) × (is_some (refusal n xs es) ≡ false)
tried n xs es row e =
    let fit = (refused_or_fit n xs es row).0 e in
    (fit.long, omega (arith, fit.valid.whole_events, fit.valid.few_events), ap is_some ((refused_or_valid n xs es).1 fit.valid))
