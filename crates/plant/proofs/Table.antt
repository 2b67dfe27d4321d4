-- Tables of pairs of states that certify a number of events, checked by computing. Assumes nothing.
use Rattle.std.proofs.Common.{◌≡◌, ℕ, suc, ◌<◌, Bool, true, false, cond, not, ◌&&◌, eqb, ltb, leb, List, [], ◌∷◌, refl, subst, ltb-true, eq-eqb, leb-true}
use mathlib.Core.Bool.{false≢true}
use Rattle.graph.specs.Member.{Among, here, there}
use Rattle.graph.specs.Product.{Move, left, right, both, on_left}
use Rattle.graph.proofs.Closed.{Certificate, certified}
use Rattle.graph.proofs.Diagnosis.{out_unless_late}
use Rattle.plant.specs.declared.parts.Arrow.{Arrow}
use Rattle.plant.specs.Plant.{Plant, ComesOutIn}
use Rattle.plant.specs.Twin.{Twin, problem}
use Rattle.std.proofs.lemmas.Bool.{and_parts}
use Rattle.plant.proofs.States.{below, among_below}
use Rattle.plant.proofs.Judged.{out_comes}

and_left : (a b : Bool) → (a && b) ≡ true → a ≡ true
and_left a b e = (and_parts a b e).0

and_right : (a b : Bool) → (a && b) ≡ true → b ≡ true
and_right a b e = (and_parts a b e).1

unfoldable pub all_of : {A : Type 0} → (A → Bool) → List A → Bool
all_of f [] = true
all_of f (x ∷ xs) = f x && all_of f xs

all_of_at : {A : Type 0} (f : A → Bool) {x : A} {xs : List A} → Among x xs → all_of f xs ≡ true → f x ≡ true
unfolding all_of
all_of_at f {x} (here xs) h = and_left (f x) (all_of f xs) h
all_of_at f (there y xs m) h = all_of_at f m (and_right (f y) (all_of f xs) h)

unfoldable pub implies : Bool → Bool → Bool
implies true b = b
implies false b = true

use_implies : (a b : Bool) → implies a b ≡ true → a ≡ true → b ≡ true
unfolding implies
use_implies true b h e = h
use_implies false b h e = absurd (false≢true e)

-- pairs that come about, pairs that do behind a fault, and how many events may still come there
module _ (p : Plant) (n : ℕ) (before after : ℕ × ℕ → Bool) (rank : ℕ × ℕ → ℕ) where
  -- what a move from x to y has to keep
  unfoldable pub fits : (bad moves : Bool) → (x y : ℕ × ℕ) → Bool
  fits bad moves x y =
      implies (before x) (before y && implies bad (after y)) && implies (after x) (after y && leb (cond moves (suc (rank y)) (rank y)) (rank x))

  unfoldable pub lefts_fit : Bool
  lefts_fit = all_of (λ (a : Arrow). all_of (λ (t : ℕ). implies (eqb (p.shows a.event) 0) (fits (p.fault a.event) true (a.from, t) (a.to, t))) (below n)) p.arrows

  unfoldable pub rights_fit : Bool
  rights_fit = all_of (λ (a : Arrow). all_of (λ (s : ℕ). implies (eqb (p.shows a.event) 0 && not (p.fault a.event)) (fits false false (s, a.from) (s, a.to))) (below n)) p.arrows

  unfoldable pub boths_fit : Bool
  boths_fit = all_of (λ (a : Arrow). all_of (λ (b : Arrow). implies (not (eqb (p.shows a.event) 0) && (eqb (p.shows a.event) (p.shows b.event) && not (p.fault b.event))) (fits (p.fault a.event) true (a.from, b.from) (a.to, b.to))) p.arrows) p.arrows

  unfoldable pub low_rank : ℕ → Bool
  low_rank k = all_of (λ (s : ℕ). all_of (λ (t : ℕ). implies (after (s, t)) (ltb (rank (s, t)) k)) (below n)) (below n)

  unfoldable pub ends_below : Bool
  ends_below = all_of (λ (a : Arrow). ltb a.to n) p.arrows

  -- the whole check
  unfoldable pub checks : ℕ → Bool
  checks k = before (0, 0) && (ltb 0 n && (lefts_fit && (rights_fit && (boths_fit && (low_rank k && ends_below)))))

  -- a pair of states that are there and have a mark
  abbrev In : (ℕ × ℕ → Bool) → ℕ × ℕ → Type 0
  In marks x = (marks x ≡ true) × (x.0 < n) × (x.1 < n)

  Fits : Move ℕ ℕ → (x y : ℕ × ℕ) → Type 0
  Fits l x y = fits (on_left p.fault l) (on_left (λ e. true) l) x y ≡ true

  module _ (k : ℕ) (ok : checks k ≡ true) where
    -- the parts of the check
    p₁ : (ltb 0 n && (lefts_fit && (rights_fit && (boths_fit && (low_rank k && ends_below))))) ≡ true
    unfolding checks
    p₁ = and_right (before (0, 0)) _ ok

    p₂ : (lefts_fit && (rights_fit && (boths_fit && (low_rank k && ends_below)))) ≡ true
    p₂ = and_right (ltb 0 n) _ p₁

    p₃ : (rights_fit && (boths_fit && (low_rank k && ends_below))) ≡ true
    p₃ = and_right lefts_fit _ p₂

    p₄ : (boths_fit && (low_rank k && ends_below)) ≡ true
    p₄ = and_right rights_fit _ p₃

    p₅ : (low_rank k && ends_below) ≡ true
    p₅ = and_right boths_fit _ p₄

    ends : (a : Arrow) → Among a p.arrows → a.to < n
    unfolding ends_below
    ends a m = ltb-true a.to n (all_of_at (λ (b : Arrow). ltb b.to n) m (and_right (low_rank k) _ p₅))

    move_fits : (l : Move ℕ ℕ) (x y : ℕ × ℕ) → x.0 < n → x.1 < n → Twin p l x y → Fits l x y × (y.0 < n) × (y.1 < n)
    unfolding Fits on_left lefts_fit rights_fit boths_fit
    move_fits (left e) x y hs ht s =
        let row = all_of_at _ s.0 (and_left lefts_fit _ p₂) in
        let one = all_of_at _ (among_below n x.1 ht) row in
        (subst (λ (t : ℕ). fits (p.fault e) true x (y.0, t) ≡ true) s.2 (use_implies _ _ one s.1), ends _ s.0, rw (← s.2) ht)
    move_fits (right e) x y hs ht s =
        let row = all_of_at _ s.0.0 (and_left rights_fit _ p₃) in
        let one = all_of_at _ (among_below n x.0 hs) row in
        (subst (λ (t : ℕ). fits false false x (t, y.1) ≡ true) s.2 (use_implies _ _ one (rw (s.1, s.0.1) refl)), rw (← s.2) hs, ends _ s.0.0)
    move_fits (both e f) x y hs ht s =
        let row = all_of_at _ s.0 (and_left boths_fit _ p₄) in
        let one = all_of_at _ s.1.0 row in
        (use_implies _ _ one (rw (s.2, eq-eqb (p.shows e) (p.shows f) s.3, s.1.1) refl), ends _ s.0, ends _ s.1.0)

    table_certificate : Certificate (Twin p) (In before) (In after) (on_left p.fault) (on_left (λ e. true)) rank (0, 0) k
    unfolding Fits fits checks low_rank
    table_certificate =
        let some : 0 < n = ltb-true 0 n (and_left (ltb 0 n) _ p₁) in
        record {
          begins = (and_left (before (0, 0)) _ ok, some, some);
          closed = λ l x y m s. let f = move_fits l x y m.1 m.2 s in (and_left (before y) _ (use_implies (before x) _ (and_left _ _ f.0) m.0), f.1, f.2);
          marks = λ l x y m s e. let f = move_fits l x y m.1 m.2 s in (use_implies _ _ (and_right (before y) _ (use_implies (before x) _ (and_left _ _ f.0) m.0)) e, f.1, f.2);
          closed_after = λ l x y m s. let f = move_fits l x y m.1 m.2 s in (and_left (after y) _ (use_implies (after x) _ (and_right _ _ f.0) m.0), f.1, f.2);
          falls = λ l x y m s. let f = move_fits l x y m.1 m.2 s in leb-true _ _ (and_right (after y) _ (use_implies (after x) _ (and_right _ _ f.0) m.0));
          low = λ x m. ltb-true (rank x) k (use_implies (after x) _ (all_of_at _ (among_below n x.1 m.2) (all_of_at _ (among_below n x.0 m.1) (and_left (low_rank k) _ p₅))) m.0);
        }

    pub table_out : ComesOutIn p k
    table_out =
        out_comes p k (out_unless_late (problem p) k (λ l. certified (Twin p) (In before) (In after) (on_left p.fault) (on_left (λ e. true)) rank k table_certificate l.first l.marks l.then l.long))
