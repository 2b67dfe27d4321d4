-- What `parse` reads is what the grammar says. Assumes nothing.
use Rattle.std.proofs.Common.{◌≡◌, ℕ, ◌^◌, ◌<◌, ◌≤◌, true, ◌&&◌, ltb, leb, List, [], ◌∷◌, length, get_or, None, Ok, Err, Option, Result, inl, inr, arith, rules}
use Rattle.std.specs.Result.{OkIff, result_ok}
use Rattle.std.specs.Str.{all_ascii_digits}
use Rattle.std.proofs.lemmas.Str.Parse.{IsNumeralModel, numerals_by_fold, digits_value_short}
use Rattle.std.proofs.lemmas.Bool.{cases_Bool, and_parts, ltb-true, lt-ltb, le-leb}
use Rattle.grammar.specs.Line.{read_on, numeral}

pub own : IsNumeralModel (λ ds. all_ascii_digits ds ≡ true) (read_on 0)
own = numerals_by_fold _ (search rules) read_on (search rules)

module _ (bs : List ℕ) (short : length bs ≤ 18) where
  pub number_is : {E : Type 0} (r : Result ℕ E) → OkIff r ((all_ascii_digits bs ≡ true) × (0 < length bs) × (read_on 0 bs < 2 ^ 64)) (read_on 0 bs) → result_ok r ≡ numeral bs
  number_is (Ok x) h =
      let few = le-leb (length bs) 18 short in
      let some = lt-ltb 0 (length bs) h.0.1 in
      rw (h.1, h.0.0, some, few)
  number_is (Err e) h =
      elim (cases_Bool (all_ascii_digits bs && (ltb 0 (length bs) && leb (length bs) 18))) [
        | inl t ↦
            let p = and_parts _ _ t in
            let q = and_parts _ _ p.1 in
            absurd (h (p.0, ltb-true _ _ q.0, omega (arith, digits_value_short own bs 18 p.0 short)))
        | inr t ↦ rw t
      ]

-- a sign in front is no digit
pub plus_none : (bs : List ℕ) → get_or bs 0 0 ≡ 43 → ◌≡◌ {A = Option ℕ} None (numeral bs)
plus_none [] e = absurd (omega arith)
plus_none (b ∷ bs) e = rw e
