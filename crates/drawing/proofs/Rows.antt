-- Numbers in a row. Assumes nothing.
use Rattle.std.proofs.Common.{◌≡◌, ℕ, ◌^◌, ◌<◌, max, false, None, Option, List, [], ◌∷◌, map, refl, ap, ◌∙◌, subst, arith}
use Rattle.std.specs.Fn.{Called}
use Rattle.std.specs.Iterator.Adapters.{map_source, map_callee, map_steps, flatten_source, flatten_front, flatten_back, flatten_done, flatten_steps}
use Rattle.std.specs.Array.Iter.{array_into_iter_items, array_steps}
use Rattle.std.specs.List.{flat_map, fold, reduce, AllByRecursion}
use Rattle.std.specs.Option.{unwrap_or}
use Rattle.std.proofs.lemmas.Iterator.{YieldsList}
use Rattle.std.proofs.lemmas.Iterator.Adapters.{YieldsList-from_flat_map}
use denote.Param.Members.{Mut}
use Rattle.std.proofs.lemmas.Iterator.Consumers.{YieldsList-from_shown}
use Rattle.drawing.specs.declared.shape.Arrow.{Arrow}
use Rattle.drawing.specs.Fine.{GoesBy, GoBy, no_arrow}
use Rattle.drawing.specs.Numbers.{greatest_from, greatest}
use Rattle.drawing.proofs.Fines.{all_from}

-- an array gives its elements
pub YieldsList-from_array : {A : Type 0} {n : ℕ} → (j : _) (xs : List A) → array_into_iter_items {X = A} {n = n} j ≡ xs → YieldsList (array_steps {A = A} {n = n}) (λ x. x) j xs
YieldsList-from_array {A} {n} j xs e =
    subst (YieldsList (array_steps {A = A} {n = n}) (λ x. x) j) e (YieldsList-from_shown (array_steps {A = A} {n = n}) (λ x. x) array_into_iter_items (λ s t h. h.0) (λ s x t h. h) j)

-- a closure that gives a list for each element, which is then taken apart
pub YieldsList-from_rows : {S A B F J C : Type 0} {steps : S → Option A → S → Type 0} {v : A → B} {ys : List B} → {s : _} (g : Mut F (A × Unit {0}) (List C)) (becomes : List C → J → Type 0) (inner : J → Option C → J → Type 0) (h : B → List C) (f : F) → ((u : List C) (j : J) → becomes u j → YieldsList inner (λ x. x) j u) → YieldsList steps v (map_source (flatten_source s)) ys → map_callee (flatten_source s) ≡ f → flatten_front s ≡ None → flatten_back s ≡ None → flatten_done s ≡ false → ((x : A) (u : List C) (q : F) → Called g f (x, tt) u q → (q ≡ f) × (u ≡ h (v x))) → YieldsList (flatten_steps (map_steps steps g) becomes inner) (λ x. x) s (flat_map h ys)
YieldsList-from_rows {v} g becomes inner h f apart source closure front back done each =
    YieldsList-from_flat_map g becomes inner (λ x. x) h f
    (λ x u q k. let p = each x u q k in (p.0, λ j b. subst (YieldsList inner (λ x. x) j) p.1 (apart u j b)))
    source closure front back done

-- the greatest of the greater states of arrows
abbrev pub later : Arrow → ℕ
later a = max a.«from» a.to

greatest_folds : (n : ℕ) (ys : List Arrow) → fold max n (map later ys) ≡ greatest_from n ys
greatest_folds n [] = refl
greatest_folds n (a ∷ ys) =
    let e : max n (later a) ≡ max (max n a.«from») a.to = omega arith in
    ap (λ m. fold max m (map later ys)) e ∙ greatest_folds (max (max n a.«from») a.to) ys

pub greatest_is : (ys : List Arrow) → unwrap_or (reduce max (map later ys)) 0 ≡ greatest ys
greatest_is [] = refl
greatest_is (a ∷ ys) =
    let e : later a ≡ max (max 0 a.«from») a.to = omega arith in
    ap (λ m. fold max m (map later ys)) e ∙ greatest_folds (max (max 0 a.«from») a.to) ys

-- no state that is named is long
short_from : (k n : ℕ) (ys : List Arrow) → n < 10 ^ 18 → AllByRecursion (GoesBy k) ys → greatest_from n ys < 10 ^ 18
short_from k n [] short go = short
short_from k n (a ∷ ys) short go = short_from k (max (max n a.«from») a.to) ys (omega (arith, go.0.0, go.0.2)) go.1

pub greatest_short : (k : ℕ) (ys : List Arrow) → GoBy k ys → greatest ys < 10 ^ 18
greatest_short k ys go = short_from k 0 ys (omega arith) (all_from (GoesBy k) ys no_arrow go)
