-- The plant's own rules over marked events. Assumes nothing.
use Rattle.std.proofs.Common.{◌≡◌, ℕ, suc, ◌+◌, ◌*◌, ◌%◌, ◌≤◌, Bool, true, false, cond, ltb, List, [], ◌∷◌, length, Some, Option, sym, refl, ap, ◌∙◌, arith}
use Rattle.std.proofs.lemmas.Bool.{lt-ltb}
use Rattle.sets.specs.Sets.{bit}
use Rattle.plant.specs.Refusals.{arrows_refusal, events_refusal, first_over, refusal}
use Rattle.sorts.specs.declared.kinds.Faults.{Faults}
use Rattle.sorts.specs.Sorts.{is_fault, marked_by, sort_of}
use Rattle.sorts.specs.Theorems.{RulesSame}
use Rattle.sorts.proofs.Numbering.{length_marked}

low : (b : Bool) → ltb (bit b) 2 ≡ true
low true = refl
low false = refl

abbrev limits : List ℕ
limits = 256 ∷ 2 ∷ []

-- a mark that is 0 or 1 is passed over
passed_over : (i s m : ℕ) (es : List ℕ) → i % 2 ≡ 0 → ltb m 2 ≡ true → first_over limits i (s ∷ (m ∷ es)) ≡ cond (ltb s 256) (first_over limits (suc (suc i)) es) (Some i)
unfolding first_over
passed_over i s m es even h =
    let odd : suc i % 2 ≡ 1 = omega arith in
    rw (even, odd, h)

module _ (f : Faults) where
  over_marked : (i : ℕ) (es : List ℕ) → i % 2 ≡ 0 → ((e : ℕ) → sort_of es e ≤ 1) → first_over limits i (marked_by f es) ≡ first_over limits i es
  unfolding marked_by
  over_marked i [] even small = refl
  over_marked i (s ∷ []) even small = refl
  over_marked i (s ∷ (m ∷ es)) even small =
      let first : m ≤ 1 = small 0 in
      let rest = over_marked (suc (suc i)) es (omega arith) (later s m es small) in
      passed_over i s (bit (is_fault f m)) (marked_by f es) even (low (is_fault f m)) ∙ ap (λ (o : Option ℕ). cond (ltb s 256) o (Some i)) rest ∙ sym (passed_over i s m es even (lt-ltb m 2 (omega arith)))
    where
      later : (s m : ℕ) (es : List ℕ) → ((e : ℕ) → sort_of (s ∷ (m ∷ es)) e ≤ 1) → (e : ℕ) → sort_of es e ≤ 1
      later s m es small e = let on : 2 * suc e + 1 ≡ suc (suc (2 * e + 1)) = omega arith in rw on at (small (suc e))

  over_either : (g : Faults) (i : ℕ) (es : List ℕ) → i % 2 ≡ 0 → first_over limits i (marked_by f es) ≡ first_over limits i (marked_by g es)
  unfolding marked_by
  over_either g i [] even = refl
  over_either g i (s ∷ []) even = refl
  over_either g i (s ∷ (m ∷ es)) even =
      passed_over i s (bit (is_fault f m)) (marked_by f es) even (low (is_fault f m)) ∙ ap (λ (o : Option ℕ). cond (ltb s 256) o (Some i)) (over_either g (suc (suc i)) es (omega arith))
      ∙ sym (passed_over i s (bit (is_fault g m)) (marked_by g es) even (low (is_fault g m)))

-- the rules see of events how many numbers there are and which is the first above its limit
sees : (n : ℕ) (xs ys zs : List ℕ) → length ys ≡ length zs → first_over limits 0 ys ≡ first_over limits 0 zs → refusal n xs ys ≡ refusal n xs zs
unfolding events_refusal arrows_refusal
sees n xs ys zs long first = rw (long, first)

pub rules_same : RulesSame
rules_same f g n xs es = record {
  either_way = sees n xs (marked_by f es) (marked_by g es) (length_marked f es ∙ sym (length_marked g es)) (over_either f g 0 es refl);
  as_before = λ small. sees n xs (marked_by f es) es (length_marked f es) (over_marked f 0 es refl small);
}
