-- The signs of a row are its different numbers other than 0, each once. Assumes nothing.
use Rattle.std.proofs.Common.{◌≡◌, ℕ, zero, suc, ◌<◌, ◌≤◌, Bool, true, false, cond, ◌||◌, eqb, ◌⊎◌, List, [], ◌∷◌, length, get_or, sym, refl, ap, ◌∙◌, subst, inl, inr, ⊎_elim, true≢false, arith}
use Rattle.std.proofs.lemmas.Bool.{eqb-true, eqb-false, eq-eqb, or_left, or_right, or_parts}
use Rattle.labelling.specs.Labels.{named, different, InRow, SignsCounted}
use Rattle.labelling.proofs.Renumbering.{place, row_placed}

in_row_cons : (x l : ℕ) (xs : List ℕ) → InRow xs l → InRow (x ∷ xs) l
in_row_cons x l xs r = (suc r.0, omega (arith, r.1), r.2)

placed_in : (x : ℕ) (met : List ℕ) → 1 ≤ place x met → InRow met x
unfolding place
placed_in x [] some = absurd (omega arith)
placed_in x (s ∷ ss) some = by_case (eqb s x) refl some (placed_in x ss)
  where
    by_case : (b : Bool) → eqb s x ≡ b → 1 ≤ cond b (suc (length ss)) (place x ss) → (1 ≤ place x ss → InRow ss x) → InRow (s ∷ ss) x
    by_case true e some below = (0, omega arith, eqb-true s x e)
    by_case false e some below = in_row_cons s x ss (below some)

in_named : (x : ℕ) (met : List ℕ) (i : ℕ) → i < length met → get_or met i 0 ≡ x → named x met ≡ true
unfolding named
in_named x [] i h e = absurd (omega arith)
in_named x (s ∷ ss) zero h e = or_left (eqb s x) _ (eq-eqb s x e)
in_named x (s ∷ ss) (suc i) h e = or_right (eqb s x) _ (in_named x ss i (omega arith) e)

-- no 0, and no number twice
record Apart (met : List ℕ) : Type 0 where
  some : (i : ℕ) → i < length met → 1 ≤ get_or met i 0
  once : (i j : ℕ) → i < length met → j < length met → get_or met i 0 ≡ get_or met j 0 → i ≡ j

apart_more : (l : ℕ) (met : List ℕ) → Apart met → (eqb l 0 || named l met) ≡ false → Apart (l ∷ met)
apart_more l met apart new = record { some = some; once = once }
  where
    some : (i : ℕ) → i < suc (length met) → 1 ≤ get_or (l ∷ met) i 0
    some zero h = let ne = eqb-false l 0 (or_parts (eqb l 0) (named l met) new).0 in omega arith
    some (suc i) h = apart.some i (omega arith)

    other : (j : ℕ) → j < length met → get_or met j 0 ≡ l → ⊥
    other j h e = true≢false (sym (in_named l met j h e) ∙ (or_parts (eqb l 0) (named l met) new).1)

    once : (i j : ℕ) → i < suc (length met) → j < suc (length met) → get_or (l ∷ met) i 0 ≡ get_or (l ∷ met) j 0 → i ≡ j
    once zero zero h k e = refl
    once zero (suc j) h k e = absurd (other j (omega arith) (sym e))
    once (suc i) zero h k e = absurd (other i (omega arith) e)
    once (suc i) (suc j) h k e = ap suc (apart.once i j (omega arith) (omega arith) e)

apart_all : (ls met : List ℕ) → Apart met → Apart (different met ls)
unfolding different
apart_all [] met apart = apart
apart_all (l ∷ ls) met apart = by_case (eqb l 0 || named l met) refl (apart_all ls met apart) (apart_all ls (l ∷ met))
  where
    by_case : (b : Bool) → (eqb l 0 || named l met) ≡ b → Apart (different met ls) → (Apart (l ∷ met) → Apart (different (l ∷ met) ls)) → Apart (cond b (different met ls) (different (l ∷ met) ls))
    by_case true e below later = below
    by_case false e below later = later (apart_more l met apart e)

-- each was met before or stands in the row
from_row : (ls met : List ℕ) (x : ℕ) → InRow (different met ls) x → InRow met x ⊎ InRow ls x
unfolding different
from_row [] met x r = inl r
from_row (l ∷ ls) met x r = by_case (eqb l 0 || named l met) r (from_row ls met x) (from_row ls (l ∷ met) x)
  where
    split : (e : ℕ) → e < suc (length met) → get_or (l ∷ met) e 0 ≡ x → InRow met x ⊎ InRow (l ∷ ls) x
    split zero h is = inr (0, omega arith, is)
    split (suc e) h is = inl (e, omega arith, is)

    by_case : (b : Bool) → InRow (cond b (different met ls) (different (l ∷ met) ls)) x → (InRow (different met ls) x → InRow met x ⊎ InRow ls x)
        → (InRow (different (l ∷ met) ls) x → InRow (l ∷ met) x ⊎ InRow ls x) → InRow met x ⊎ InRow (l ∷ ls) x
    by_case true r below later = ⊎_elim (λ m. inl m) (λ n. inr (in_row_cons l x ls n)) (below r)
    by_case false r below later = ⊎_elim (λ m. split m.0 m.1 m.2) (λ n. inr (in_row_cons l x ls n)) (later r)

pub signs-counted : SignsCounted
signs-counted ls = (
  different [] ls,
  record {
    many = refl;
    some = apart.some;
    there = λ i h. ⊎_elim (λ m. absurd (omega (arith, m.1))) (λ n. n) (from_row ls [] (get_or (different [] ls) i 0) (i, h, refl));
    once = apart.once;
    all = λ l some r.
        let at : 1 ≤ get_or ls r.0 0 = rw r.2 some in
        subst (InRow (different [] ls)) r.2 (placed_in (get_or ls r.0 0) (different [] ls) (row_placed ls [] r.0 at));
  },
)
  where
    apart : Apart (different [] ls)
    apart = apart_all ls [] (record { some = λ i h. absurd (omega arith); once = λ i j h k e. absurd (omega arith) })
