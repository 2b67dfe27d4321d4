-- Rows in normal form. Assumes nothing.
use Rattle.std.proofs.Common.{◌≡◌, ℕ, zero, suc, ◌+◌, ◌<◌, ◌≤◌, max, true, false, cond, ◌||◌, eqb, List, [], ◌∷◌, ◌++◌, length, get_or, refl, ap, ⊎_elim, arith}
use Rattle.std.proofs.lemmas.Bool.{cases_lt, cases_eq, eq-eqb, ne_eqb, or_left, or_right, or_from}
use Rattle.labelling.specs.Labels.{named, different, signs}
use Rattle.labelling.specs.Trials.{Grown, top}

-- signs are not lost
pub top_over : (u : ℕ) (ls : List ℕ) → u ≤ top u ls
unfolding top
top_over u [] = omega arith
top_over u (l ∷ ls) = let h = top_over (max u l) ls in omega arith

pub number_under : (u : ℕ) (ls : List ℕ) (e : ℕ) → get_or ls e 0 ≤ top u ls
unfolding top
number_under u [] e = omega arith
number_under u (l ∷ ls) zero = let h = top_over (max u l) ls in omega arith
number_under u (l ∷ ls) (suc e) = number_under (max u l) ls e

-- each number brings one sign at most
pub top_small : (u : ℕ) (ls : List ℕ) → Grown u ls → top u ls ≤ u + length ls
unfolding Grown top
top_small u [] g = omega arith
top_small u (l ∷ ls) g = let h = top_small (max u l) ls g.1 in omega (arith, g.0)

-- one number more
pub grown_push : (u : ℕ) (ls : List ℕ) (l : ℕ) → Grown u ls → l ≤ suc (top u ls) → Grown u (ls ++ (l ∷ []))
unfolding Grown top
grown_push u [] l g h = (h, tt)
grown_push u (k ∷ ls) l g h = (g.0, grown_push (max u k) ls l g.1 h)

pub top_push : (u : ℕ) (ls : List ℕ) (l : ℕ) → top u (ls ++ (l ∷ [])) ≡ max (top u ls) l
unfolding top
top_push u [] l = refl
top_push u (k ∷ ls) l = top_push (max u k) ls l

-- the signs up to u, the latest first
down : ℕ → List ℕ
down zero = []
down (suc u) = suc u ∷ down u

named_down : (u l : ℕ) → 1 ≤ l → l ≤ u → named l (down u) ≡ true
unfolding named down
named_down zero l some le = absurd (omega arith)
named_down (suc u) l some le =
    ⊎_elim (λ e. or_left (eqb (suc u) l) _ (eq-eqb (suc u) l (omega arith))) (λ ne. or_right (eqb (suc u) l) _ (named_down u l some (omega arith))) (cases_eq l (suc u))

named_above : (u l : ℕ) → u < l → named l (down u) ≡ false
unfolding named down
named_above zero l h = refl
named_above (suc u) l h = or_from (eqb (suc u) l) _ (ne_eqb (suc u) l (λ e. omega arith)) (named_above u l (omega arith))

old_number : (u l : ℕ) → l ≤ u → (eqb l 0 || named l (down u)) ≡ true
old_number u l le =
    ⊎_elim (λ e. or_left (eqb l 0) _ (eq-eqb l 0 e)) (λ ne. or_right (eqb l 0) _ (named_down u l (omega arith) le)) (cases_eq l 0)

length_down : (u : ℕ) → length (down u) ≡ u
unfolding down
length_down zero = refl
length_down (suc u) = ap suc (length_down u)

-- in normal form the last sign is how many there are
count_from : (u : ℕ) (ls : List ℕ) → Grown u ls → length (different (down u) ls) ≡ top u ls
unfolding Grown top different down
count_from u [] g = length_down u
count_from u (l ∷ ls) g = ⊎_elim (λ lt. old (omega arith) (λ w. count_from w ls)) (λ le. new (omega (arith, g.0)) (λ w. count_from w ls)) (cases_lt l (suc u))
  where
    old : l ≤ u → ((w : ℕ) → Grown w ls → length (different (down w) ls) ≡ top w ls) → length (cond (eqb l 0 || named l (down u)) (different (down u) ls) (different (l ∷ down u) ls)) ≡ top (max u l) ls
    old le below =
        let same : max u l ≡ u = omega arith in
        rw (old_number u l le, same) (below u (rw same at g.1))

    new : l ≡ suc u → ((w : ℕ) → Grown w ls → length (different (down w) ls) ≡ top w ls) → length (cond (eqb l 0 || named l (down u)) (different (down u) ls) (different (l ∷ down u) ls)) ≡ top (max u l) ls
    new e below =
        let same : max u l ≡ suc u = omega arith in
        let none : (eqb l 0 || named l (down u)) ≡ false = or_from (eqb l 0) _ (ne_eqb l 0 (λ z. omega arith)) (named_above u l (omega arith)) in
        rw (none, same, e) (below (suc u) (rw same at g.1))

pub normal_count : (ls : List ℕ) → Grown 0 ls → signs ls ≡ top 0 ls
unfolding down
normal_count ls g = count_from 0 ls g
