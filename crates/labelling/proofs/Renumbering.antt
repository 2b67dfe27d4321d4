-- Every row is a renaming of one in normal form, which has as many signs. Assumes nothing.
use Rattle.std.proofs.Common.{◌≡◌, ℕ, zero, suc, ◌≤◌, max, Bool, true, false, cond, ◌||◌, eqb, List, [], ◌∷◌, length, get_or, sym, refl, ap, ◌∙◌, ⊎_elim, true≢false, arith}
use Rattle.std.proofs.lemmas.Bool.{cases_eq, eqb-true, eq-eqb, or_cases, or_parts, or_right}
use Rattle.labelling.specs.Labels.{named, different}
use Rattle.labelling.specs.Trials.{Grown, top, SameSigns}

-- the place of a number, counted from the end and from 1; 0 if it is not there
unfoldable pub place : ℕ → List ℕ → ℕ
place x [] = 0
place x (s ∷ ss) = cond (eqb s x) (suc (length ss)) (place x ss)

place_small : (x : ℕ) (met : List ℕ) → place x met ≤ length met
unfolding place
place_small x [] = omega arith
place_small x (s ∷ ss) = by_case (eqb s x) (place_small x ss)
  where
    by_case : (b : Bool) → place x ss ≤ length ss → cond b (suc (length ss)) (place x ss) ≤ suc (length ss)
    by_case true h = omega arith
    by_case false h = omega arith

place_some : (x : ℕ) (met : List ℕ) → named x met ≡ true → 1 ≤ place x met
unfolding place named
place_some x [] n = absurd (true≢false (sym n))
place_some x (s ∷ ss) n = by_case (eqb s x) n (place_some x ss)
  where
    by_case : (b : Bool) → (b || named x ss) ≡ true → (named x ss ≡ true → 1 ≤ place x ss) → 1 ≤ cond b (suc (length ss)) (place x ss)
    by_case true n below = omega arith
    by_case false n below = below n

-- different numbers have different places
place_same : (x y : ℕ) (met : List ℕ) → 1 ≤ place x met → place x met ≡ place y met → x ≡ y
unfolding place
place_same x y [] some e = absurd (omega arith)
place_same x y (s ∷ ss) some e = by_case (eqb s x) (eqb s y) refl refl some e (place_same x y ss) (place_small x ss) (place_small y ss)
  where
    by_case : (b c : Bool) → eqb s x ≡ b → eqb s y ≡ c → 1 ≤ cond b (suc (length ss)) (place x ss) → cond b (suc (length ss)) (place x ss) ≡ cond c (suc (length ss)) (place y ss)
        → (1 ≤ place x ss → place x ss ≡ place y ss → x ≡ y) → place x ss ≤ length ss → place y ss ≤ length ss → x ≡ y
    by_case true true b c some e below i j = sym (eqb-true s x b) ∙ eqb-true s y c
    by_case true false b c some e below i j = absurd (omega arith)
    by_case false true b c some e below i j = absurd (omega arith)
    by_case false false b c some e below i j = below some e

-- a number that is put in front leaves the places of the others
place-behind : (x s : ℕ) (ss : List ℕ) → eqb s x ≡ false → place x (s ∷ ss) ≡ place x ss
unfolding place
place-behind x s ss e = rw e refl

place_front : (x : ℕ) (ss : List ℕ) → place x (x ∷ ss) ≡ suc (length ss)
unfolding place
place_front x ss = rw (eq-eqb x x refl) refl

-- what was met keeps its place
place_kept : (ls met : List ℕ) (x : ℕ) → named x met ≡ true → place x (different met ls) ≡ place x met
unfolding different named
place_kept [] met x n = refl
place_kept (l ∷ ls) met x n = by_case (eqb l 0 || named l met) refl (place_kept ls met x n) (λ m. place_kept ls (l ∷ met) x m)
  where
    other : (eqb l 0 || named l met) ≡ false → (b : Bool) → eqb l x ≡ b → b ≡ false
    other new true e =
        let same : named l met ≡ true = ap (λ (y : ℕ). named y met) (eqb-true l x e) ∙ n in
        absurd (true≢false (sym same ∙ (or_parts (eqb l 0) (named l met) new).1))
    other new false e = refl

    by_case : (b : Bool) → (eqb l 0 || named l met) ≡ b → place x (different met ls) ≡ place x met → (named x (l ∷ met) ≡ true → place x (different (l ∷ met) ls) ≡ place x (l ∷ met))
        → place x (cond b (different met ls) (different (l ∷ met) ls)) ≡ place x met
    by_case true e below later = below
    by_case false e below later = later (or_right (eqb l x) (named x met) n) ∙ place-behind x l met (other e (eqb l x) refl)

-- 0 has none
zero-kept : (ls met : List ℕ) → place 0 met ≡ 0 → place 0 (different met ls) ≡ 0
unfolding different
zero-kept [] met z = z
zero-kept (l ∷ ls) met z = by_case (eqb l 0 || named l met) refl (zero-kept ls met z) (zero-kept ls (l ∷ met))
  where
    by_case : (b : Bool) → (eqb l 0 || named l met) ≡ b → place 0 (different met ls) ≡ 0 → (place 0 (l ∷ met) ≡ 0 → place 0 (different (l ∷ met) ls) ≡ 0)
        → place 0 (cond b (different met ls) (different (l ∷ met) ls)) ≡ 0
    by_case true e below later = below
    by_case false e below later = later (place-behind 0 l met (or_parts (eqb l 0) (named l met) e).0 ∙ z)

named_front : (l : ℕ) (met : List ℕ) → named l (l ∷ met) ≡ true
unfolding named
named_front l met = rw (eq-eqb l l refl) refl

-- the place of the number that comes next: the old one, or the next place
place_next : (l : ℕ) (ls met : List ℕ) → place 0 met ≡ 0 → (eqb l 0 || named l met) ≡ true → place l (different met ls) ≤ length met
place_next l ls met z old =
    ⊎_elim (λ e. let at : place l (different met ls) ≡ 0 = ap (λ (x : ℕ). place x (different met ls)) (eqb-true l 0 e) ∙ zero-kept ls met z in omega arith)
    (λ n. let at = place_kept ls met l n in omega (arith, place_small l met)) (or_cases (eqb l 0) (named l met) old)

-- every number of the row but 0 has a place
pub row_placed : (ls met : List ℕ) (e : ℕ) → 1 ≤ get_or ls e 0 → 1 ≤ place (get_or ls e 0) (different met ls)
unfolding different
row_placed [] met e h = absurd (omega arith)
row_placed (l ∷ ls) met zero h = by_case (eqb l 0 || named l met) refl
  where
    by_case : (b : Bool) → (eqb l 0 || named l met) ≡ b → 1 ≤ place l (cond b (different met ls) (different (l ∷ met) ls))
    by_case true e =
        ⊎_elim (λ z. let none = eqb-true l 0 z in absurd (omega arith)) (λ n. let at = place_kept ls met l n in omega (arith, place_some l met n)) (or_cases (eqb l 0) (named l met) e)
    by_case false e = let at = place_kept ls (l ∷ met) l (named_front l met) in omega (arith, place_front l met)
row_placed (l ∷ ls) met (suc e) h = by_case (eqb l 0 || named l met) (row_placed ls met e h) (row_placed ls (l ∷ met) e h)
  where
    by_case : (b : Bool) → 1 ≤ place (get_or ls e 0) (different met ls) → 1 ≤ place (get_or ls e 0) (different (l ∷ met) ls) → 1 ≤ place (get_or ls e 0) (cond b (different met ls) (different (l ∷ met) ls))
    by_case true here later = here
    by_case false here later = later

-- each number replaced by its place
renumber : (all ls : List ℕ) → List ℕ
renumber all [] = []
renumber all (l ∷ ls) = place l all ∷ renumber all ls

abbrev InOrder : (u : ℕ) (ks : List ℕ) (v : ℕ) → Type 0
InOrder u ks v = Grown u ks × (top u ks ≡ v)

in_order_cons : (u k w v : ℕ) (ks : List ℕ) → k ≤ suc u → max u k ≡ w → InOrder w ks v → InOrder u (k ∷ ks) v
unfolding Grown top
in_order_cons u k w v ks le e o = ((le, rw e o.0), rw e o.1)

in_order : (ls met all : List ℕ) → place 0 met ≡ 0 → all ≡ different met ls → InOrder (length met) (renumber all ls) (length all)
unfolding different renumber Grown top
in_order [] met all z e = (tt, ap length (sym e))
in_order (l ∷ ls) met all z e = by_case (eqb l 0 || named l met) refl e (λ h. in_order ls met all z h) (λ y h. in_order ls (l ∷ met) all y h)
  where
    by_case : (b : Bool) → (eqb l 0 || named l met) ≡ b → all ≡ cond b (different met ls) (different (l ∷ met) ls)
        → (all ≡ different met ls → InOrder (length met) (renumber all ls) (length all))
        → (place 0 (l ∷ met) ≡ 0 → all ≡ different (l ∷ met) ls → InOrder (suc (length met)) (renumber all ls) (length all))
        → InOrder (length met) (place l all ∷ renumber all ls) (length all)
    by_case true old e below later =
        let le : place l all ≤ length met = rw e (place_next l ls met z old) in
        in_order_cons (length met) (place l all) (length met) (length all) (renumber all ls) (omega arith) (omega arith) (below e)
    by_case false new e below later =
        let at : place l all ≡ suc (length met) = ap (place l) e ∙ place_kept ls (l ∷ met) l (named_front l met) ∙ place_front l met in
        in_order_cons (length met) (place l all) (suc (length met)) (length all) (renumber all ls) (omega arith) (omega arith)
        (later (place-behind 0 l met (or_parts (eqb l 0) (named l met) new).0 ∙ z) e)

renumber_at : (all ls : List ℕ) (e : ℕ) → place 0 all ≡ 0 → get_or (renumber all ls) e 0 ≡ place (get_or ls e 0) all
unfolding renumber
renumber_at all [] e z = sym z
renumber_at all (l ∷ ls) zero z = refl
renumber_at all (l ∷ ls) (suc e) z = renumber_at all ls e z

renumber_length : (all ls : List ℕ) → length (renumber all ls) ≡ length ls
unfolding renumber
renumber_length all [] = refl
renumber_length all (l ∷ ls) = ap suc (renumber_length all ls)

-- the normal form of a row
pub normal_form : (ls : List ℕ) → (ks : List ℕ) × SameSigns ls ks
unfolding place
normal_form ls = (
  renumber all ls,
  record {
    size = renumber_length all ls;
    grown = ordered.0;
    counts = ordered.1;
    nothing = λ e z. at e ∙ ap (λ (x : ℕ). place x all) z ∙ none;
    nothing_back = back;
    alike = λ e d s. at e ∙ ap (λ (x : ℕ). place x all) s ∙ sym (at d);
    alike_back = λ e d s.
        ⊎_elim (λ z. z ∙ sym (back d (sym s ∙ at e ∙ ap (λ (x : ℕ). place x all) z ∙ none)))
        (λ ne. place_same (get_or ls e 0) (get_or ls d 0) all (row_placed ls [] e (omega arith)) (sym (at e) ∙ s ∙ at d)) (cases_eq (get_or ls e 0) 0);
  },
)
  where
    all : List ℕ
    all = different [] ls

    none : place 0 all ≡ 0
    none = zero-kept ls [] refl

    ordered : InOrder 0 (renumber all ls) (length all)
    ordered = in_order ls [] all refl refl

    at : (e : ℕ) → get_or (renumber all ls) e 0 ≡ place (get_or ls e 0) all
    at e = renumber_at all ls e none

    back : (e : ℕ) → get_or (renumber all ls) e 0 ≡ 0 → get_or ls e 0 ≡ 0
    back e z =
        ⊎_elim (λ same. same) (λ ne. let some = row_placed ls [] e (omega arith) in absurd (omega (arith, at e))) (cases_eq (get_or ls e 0) 0)
