-- What is known where no rule turns a sign away, and where one does. Assumes nothing.
use Rattle.std.proofs.Common.{◌≡◌, ℕ, suc, ◌+◌, ◌*◌, ◌%◌, ◌<◌, ◌≤◌, eqb, leb, ltb, cond, List, [], ◌∷◌, length, Some, None, Ok, Err, Option, refl, ⊎_elim, arith}
use Rattle.std.specs.List.{position, position_or_len}
use Rattle.std.proofs.lemmas.Bool.Decides.{nat_tests}
use Rattle.std.proofs.lemmas.Bool.{cases_lt, eqb-true, leb-true, lt-ltb, le-ltb}
use Rattle.plant.specs.declared.parts.Refusal.{Refusal}
use Rattle.plant.specs.Checked.{checked}
use Rattle.plant.specs.Refusals.{first_over, refusal}
use Rattle.plant.proofs.Valid.{or_else_none, passed}
use Rattle.observer.specs.Refusals.{follow_refusal, marks_refusal, sign_refusal}

pub checked_ok : (o : Option Refusal) → Ok tt ≡ checked o → o ≡ None
checked_ok None e = refl
checked_ok (Some r) e = let z : ◌≡◌ {A = ℕ} 0 1 = cc in absurd (omega arith)

pub checked_err : (o : Option Refusal) (r : Refusal) → Err r ≡ checked o → o ≡ Some r
checked_err None r e = let z : ◌≡◌ {A = ℕ} 0 1 = cc in absurd (omega arith)
checked_err (Some q) r e = cc

-- a memory and a sign that pass
pub record Passed (n : ℕ) (m : List ℕ) (o : ℕ) : Type 0 where
  pub sized : length m ≡ 2 * n
  pub sign : o ≤ 255

module _ (n : ℕ) (xs es m : List ℕ) (o : ℕ) where
  pub follow_passed : follow_refusal n xs es m o ≡ None → Passed n m o
  unfolding marks_refusal sign_refusal
  follow_passed e =
      let plant = or_else_none (refusal n xs es) _ e in
      let memory = or_else_none (marks_refusal n m) (sign_refusal o) plant.1 in
      record {
        sized = eqb-true (length m) (2 * n) (passed (eqb (length m) (2 * n)) _ _ memory.0).0;
        sign = leb-true o 255 (passed (leb o 255) _ _ memory.1).0;
      }

-- the first mark above 1, counted from k
above_at : (xs : List ℕ) (k : ℕ) → first_over (2 ∷ []) k xs ≡ cond (ltb (position_or_len (λ x. ltb 1 x) xs) (length xs)) (Some (k + position_or_len (λ x. ltb 1 x) xs)) None
unfolding first_over
above_at [] k = refl
above_at (x ∷ xs) k =
    let place : k % 1 ≡ 0 = omega arith in
    ⊎_elim
    (λ h. let low : x ≤ 1 = omega (arith, h) in rw (place, lt-ltb x 2 h, le-ltb 1 x low, above_at xs (suc k)) (grind (arith, nat_tests)))
    (λ h. let high : 1 < x = omega (arith, h) in rw (place, le-ltb x 2 h, lt-ltb 1 x high) (grind (arith, nat_tests)))
    (cases_lt x 2)

pub first_above : (xs : List ℕ) → first_over (2 ∷ []) 0 xs ≡ position (λ x. ltb 1 x) xs
first_above xs = let z : 0 + position_or_len (λ x. ltb 1 x) xs ≡ position_or_len (λ x. ltb 1 x) xs = omega arith in rw (above_at xs 0, z) refl
