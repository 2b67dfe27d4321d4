-- The first number over its limit, place by place. Assumes nothing.
use Rattle.std.proofs.Common.{◌≡◌, ℕ, ◌+◌, ◌*◌, ◌/◌, ◌%◌, ◌<◌, ◌≤◌, List, length, get_or, drop, Some, None, sym, ap, ◌∙◌, mul_comm, add-mul, add-one, arith, drop-cons}
use native.Mathlib.Nat.{div-add-mod}
use Rattle.std.proofs.lemmas.Nat.{mod-mul-add}
use Rattle.std.proofs.lemmas.List.{drop_all}
use Rattle.std.proofs.lemmas.Bool.{lt-ltb, le-ltb}
use Rattle.plant.specs.Refusals.{first_over}

-- place is the place of index i among the limits
module _ (limits xs : List ℕ) (i place : ℕ) (e : place ≡ i % length limits) where
  pub over_here : i < length xs → get_or limits place 0 ≤ get_or xs i 0 → first_over limits i (drop i xs) ≡ Some i
  unfolding first_over
  over_here h over = rw (drop-cons xs i 0, ← e, le-ltb (get_or xs i 0) (get_or limits place 0) over)

  pub over_later : i < length xs → get_or xs i 0 < get_or limits place 0 → first_over limits i (drop i xs) ≡ first_over limits (i + 1) (drop (i + 1) xs)
  unfolding first_over
  over_later h under = rw (add-one, drop-cons xs i 0, ← e, lt-ltb (get_or xs i 0) (get_or limits place 0) under)

pub over_nowhere : (limits xs : List ℕ) (i : ℕ) → length xs ≤ i → first_over limits i (drop i xs) ≡ None
unfolding first_over
over_nowhere limits xs i h = rw (drop_all i xs h)

-- one place further in limits that recur
module _ (i n place : ℕ) (e : place ≡ i % n) (h : place < n) where
  sum : i + 1 ≡ i / n * n + (place + 1)
  sum = omega (arith, div-add-mod i n, mul_comm n (i / n))

  pub place_on : (place + 1 ≡ n → ⊥) → place + 1 ≡ (i + 1) % n
  place_on k = let lt : place + 1 < n = omega arith in sym (ap (λ (m : ℕ). m % n) sum ∙ mod-mul-add (i / n) n (place + 1) lt)

  pub place_again : place + 1 ≡ n → 0 ≡ (i + 1) % n
  place_again k =
      let whole : i + 1 ≡ (i / n + 1) * n + 0 = omega (arith, sum, add-mul (i / n) 1 n) in
      sym (ap (λ (m : ℕ). m % n) whole ∙ mod-mul-add (i / n + 1) n 0 (omega arith))
