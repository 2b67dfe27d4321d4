-- Marked events place by place, and the plant that they make. Assumes nothing.
use Rattle.std.proofs.Common.{◌≡◌, ℕ, zero, suc, ◌+◌, ◌*◌, ◌%◌, ◌<◌, ◌≤◌, min, Bool, true, false, cond, eqb, List, [], ◌∷◌, ◌++◌, length, get_or, take, set, sym, refl, ap, ◌∙◌, ⊎_elim, arith}
use Rattle.std.proofs.lemmas.List.{get_or_past, take_all, take_more, take_more_set}
use Rattle.std.proofs.lemmas.Bool.{cases_lt}
use Rattle.sets.specs.Sets.{bit}
use Rattle.plant.specs.Numbers.{arrows_in, plant_in}
use Rattle.sorts.specs.declared.kinds.Faults.{Faults}
use Rattle.sorts.specs.Sorts.{is_fault, marked_by, plant_of}

module _ (f : Faults) where
  pub length_marked : (es : List ℕ) → length (marked_by f es) ≡ length es
  unfolding marked_by
  length_marked [] = refl
  length_marked (s ∷ []) = refl
  length_marked (s ∷ (m ∷ es)) = ap (λ (k : ℕ). suc (suc k)) (length_marked es)

  -- a sign as it was, and a mark 1 where the event counts
  pub marked_at : (es : List ℕ) (i : ℕ) → i < length es → get_or (marked_by f es) i 0 ≡ cond (eqb (i % 2) 0) (get_or es i 0) (bit (is_fault f (get_or es i 0)))
  unfolding marked_by
  marked_at [] i h = absurd (omega arith)
  marked_at (s ∷ []) zero h = refl
  marked_at (s ∷ []) (suc i) h = absurd (omega arith)
  marked_at (s ∷ (m ∷ es)) zero h = refl
  marked_at (s ∷ (m ∷ es)) (suc zero) h = refl
  marked_at (s ∷ (m ∷ es)) (suc (suc i)) h = let e : suc (suc i) % 2 ≡ i % 2 = omega arith in rw e (marked_at es i (omega arith))

  -- one number more is marked
  pub marked_more : (es numbers : List ℕ) (i v : ℕ) → i < length es → i < length numbers → take i numbers ≡ take i (marked_by f es)
      → v ≡ cond (eqb (i % 2) 0) (get_or es i 0) (bit (is_fault f (get_or es i 0))) → take (i + 1) (set numbers i v) ≡ take (i + 1) (marked_by f es)
  marked_more es numbers i v h room same is =
      let here : i < length (marked_by f es) = omega (arith, length_marked es) in
      take_more_set numbers i v room ∙ ap (λ (ys : List ℕ). ys ++ (v ∷ [])) same
      ∙ ap (λ (x : ℕ). take i (marked_by f es) ++ (x ∷ [])) (is ∙ sym (marked_at es i h)) ∙ sym (take_more (marked_by f es) i 0 here)

  -- all that are held are
  pub marked_all : (es numbers : List ℕ) (count : ℕ) → count ≡ min (length es) 129 → take count numbers ≡ take count (marked_by f es) → take count numbers ≡ take 129 (marked_by f es)
  marked_all es numbers count is same =
      ⊎_elim
      (λ long. let whole : count ≡ 129 = omega arith in same ∙ ap (λ (k : ℕ). take k (marked_by f es)) whole)
      (λ short.
      let few : length (marked_by f es) ≤ 129 = omega (arith, length_marked es) in
      let all : length (marked_by f es) ≤ count = omega (arith, length_marked es) in
      same ∙ take_all count (marked_by f es) all ∙ sym (take_all 129 (marked_by f es) few))
      (cases_lt 129 (length es))

  sign_at : (es : List ℕ) (e : ℕ) → get_or (marked_by f es) (2 * e) 0 ≡ get_or es (2 * e) 0
  sign_at es e =
      ⊎_elim
      (λ here. let even : (2 * e) % 2 ≡ 0 = omega arith in marked_at es (2 * e) here ∙ rw even)
      (λ past. let far : length (marked_by f es) ≤ 2 * e = omega (arith, length_marked es) in get_or_past (marked_by f es) (2 * e) 0 far ∙ sym (get_or_past es (2 * e) 0 past))
      (cases_lt (2 * e) (length es))

  bit_one : (b : Bool) → eqb (bit b) 1 ≡ b
  bit_one true = refl
  bit_one false = refl

  fault_at : is_fault f 0 ≡ false → (es : List ℕ) (e : ℕ) → eqb (get_or (marked_by f es) (2 * e + 1) 0) 1 ≡ is_fault f (get_or es (2 * e + 1) 0)
  fault_at none es e =
      ⊎_elim
      (λ here.
      let odd : (2 * e + 1) % 2 ≡ 1 = omega arith in
      ap (λ (m : ℕ). eqb m 1) (marked_at es (2 * e + 1) here ∙ rw odd) ∙ bit_one (is_fault f (get_or es (2 * e + 1) 0)))
      (λ past.
      let far : length (marked_by f es) ≤ 2 * e + 1 = omega (arith, length_marked es) in
      ap (λ (m : ℕ). eqb m 1) (get_or_past (marked_by f es) (2 * e + 1) 0 far) ∙ sym (ap (is_fault f) (get_or_past es (2 * e + 1) 0 past) ∙ none))
      (cases_lt (2 * e + 1) (length es))

  -- the numbers make the plant in which just the events that count are faults
  pub plant_same : is_fault f 0 ≡ false → (xs es : List ℕ) → plant_in xs (marked_by f es) ≡ plant_of f xs es
  unfolding plant_in plant_of
  plant_same none xs es = λ j. record { arrows = arrows_in xs; shows = λ e. sign_at es e j; fault = λ e. fault_at none es e j }
