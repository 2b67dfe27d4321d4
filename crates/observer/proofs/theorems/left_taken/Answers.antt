use Rattle.std.proofs.Common.{◌≡◌, ℕ, suc, ◌*◌, ◌%◌, ◌<◌, ◌≤◌, true, leb, List, [], ◌∷◌, length, get_or, None, refl, arith}
use Rattle.std.proofs.lemmas.Bool.{and_parts, eq-eqb, leb-true, lt-ltb}
use Rattle.plant.specs.Refusals.{first_over}
use Rattle.observer.specs.Entry.{LeftTaken, WordSays, marks_ok}
use Rattle.observer.specs.Refusals.{marks_refusal}
use Rattle.observer.proofs.theorems.left_taken.Goals as goal

under : (limits : List ℕ) (x : ℕ) (xs : List ℕ) (i place : ℕ) → place ≡ i % length limits → x < get_or limits place 0 → first_over limits (suc i) xs ≡ None → first_over limits i (x ∷ xs) ≡ None
unfolding first_over
under limits x xs i place e h rest = rw (← e, lt-ltb x (get_or limits place 0) h) rest

none_over : (xs : List ℕ) (i : ℕ) → marks_ok xs ≡ true → first_over (2 ∷ []) i xs ≡ None
unfolding marks_ok first_over
none_over [] i e = refl
none_over (x ∷ xs) i e =
    let parts = and_parts (leb x 1) (marks_ok xs) e in
    let small : x ≤ 1 = leb-true x 1 parts.0 in
    let place : 0 ≡ i % 1 = omega arith in
    let low : x < 2 = omega arith in
    under (2 ∷ []) x xs i 0 place low (none_over xs (suc i) parts.1)

pub returns : goal.returns
unfolding LeftTaken WordSays marks_refusal
returns c n p m o w m₁ says = rw (eq-eqb (length m₁) (2 * n) says.0, none_over m₁ 0 says.1)
