-- Whether some run shows given signs, with a fault or without, is decided; so just one of four things is known. Assumes nothing.
use Rattle.std.proofs.Common.{◌≡◌, ℕ, Bool, true, false, cond, ◌||◌, eqb, ◌⊎◌, List, [], ◌∷◌, sym, refl, ap, ◌∙◌, subst, inl, inr, arith}
use mathlib.Core.Bool.{Bool-discrete}
use mathlib.Core.HLevel.{×_discrete}
use mathlib.Core.List.{List-discrete}
use native.Mathlib.Decide.{map_dec, ℕ_discrete}
use Rattle.graph.specs.Member.{Among, here, there}
use Rattle.graph.specs.Walk.{Walk, labels, Finite}
use Rattle.graph.specs.Monitor.{after}
use Rattle.graph.proofs.Member.{none_among, among_cases, some_among?, pairs, among_pairs, pairs_among}
use Rattle.graph.proofs.Walk.{stays_inside}
use Rattle.graph.proofs.Monitor.{outcome?}
use Rattle.plant.specs.Plant.{Plant, seen, faulty, Known, bad, good, either, neither, May, Knows}
use Rattle.plant.specs.Theorems.{KnownOne}
use Rattle.plant.specs.Twin.{Goes}
use Rattle.plant.proofs.States.{goes_finite, reached, ends_reached}
use Rattle.plant.proofs.Traces.{run_trace, walk_run}

-- a list and what is left of it from each place on
suffixes : List ℕ → List (List ℕ)
suffixes [] = [] ∷ []
suffixes (o ∷ os) = (o ∷ os) ∷ suffixes os

whole_suffix : (os : List ℕ) → Among os (suffixes os)
unfolding suffixes
whole_suffix [] = here []
whole_suffix (o ∷ os) = here (suffixes os)

empty_suffix : (os : List ℕ) → Among [] (suffixes os)
unfolding suffixes
empty_suffix [] = here []
empty_suffix (o ∷ os) = there (o ∷ os) (suffixes os) (empty_suffix os)

tail_suffix : (os : List ℕ) (x : ℕ) (xs : List ℕ) → Among (x ∷ xs) (suffixes os) → Among xs (suffixes os)
unfolding suffixes
tail_suffix [] x xs m = absurd (only (among_cases m))
  where
    only : (x ∷ xs ≡ []) ⊎ Among (x ∷ xs) [] → ⊥
    only (inl e) = let z : ◌≡◌ {A = ℕ} 0 1 = cc in omega arith
    only (inr k) = none_among k
tail_suffix (o ∷ os) x xs m = there (o ∷ os) (suffixes os) (cases (among_cases m) (tail_suffix os x xs))
  where
    cases : (x ∷ xs ≡ o ∷ os) ⊎ Among (x ∷ xs) (suffixes os) → (Among (x ∷ xs) (suffixes os) → Among xs (suffixes os)) → Among xs (suffixes os)
    cases (inl e) below = let rest : os ≡ xs = cc in subst (λ (l : List ℕ). Among l (suffixes os)) rest (whole_suffix os)
    cases (inr k) below = below k

module _ (p : Plant) where
  -- remembered of a run: whether it has a fault, and what it shows
  recall : ℕ → (Bool × List ℕ) → (Bool × List ℕ)
  recall e x = (p.fault e || x.0, cond (eqb (p.shows e) 0) x.1 (p.shows e ∷ x.1))

  recalled : (es : List ℕ) → after recall (false, []) es ≡ (faulty p es, seen p es)
  unfolding recall after faulty seen
  recalled [] = refl
  recalled (e ∷ es) = ap (recall e) (recalled es)

  module _ (os : List ℕ) where
    room : List (Bool × List ℕ)
    room = pairs (true ∷ (false ∷ [])) (suffixes os)

    in_room : (b : Bool) (xs : List ℕ) → Among xs (suffixes os) → Among (b, xs) room
    unfolding room
    in_room true xs m = among_pairs (suffixes os) (here (false ∷ [])) m
    in_room false xs m = among_pairs (suffixes os) (there true (false ∷ []) (here [])) m

    closed_back : (e : ℕ) (x : Bool × List ℕ) → Among (recall e x) room → Among x room
    unfolding room recall
    closed_back e x m = in_room x.0 x.1 (by_sign (eqb (p.shows e) 0) (pairs_among (true ∷ (false ∷ [])) (suffixes os) (recall e x) m).1)
      where
        by_sign : (k : Bool) → Among (cond k x.1 (p.shows e ∷ x.1)) (suffixes os) → Among x.1 (suffixes os)
        by_sign true n = n
        by_sign false n = tail_suffix os (p.shows e) x.1 n

    fin : Finite (Goes p)
    fin = goes_finite p (reached p) (ends_reached p)

    -- a run that shows the signs, as a walk to a listed state
    Shown : Bool → Type 0
    Shown b = (t : ℕ) × Among t fin.nodes × ((w : Walk (Goes p) 0 t) × (after recall (false, []) (labels (Goes p) w) ≡ (b, os)))

    first : Among 0 fin.nodes
    unfolding fin goes_finite reached
    first = here _

    shown? : (b : Bool) → Dec (Shown b)
    unfolding Shown
    shown? b =
        some_among? fin.nodes (λ t m. outcome? (Goes p) recall room (×_discrete Bool-discrete (List-discrete ℕ_discrete)) fin closed_back 0 t (false, []) (b, os) first (in_room false [] (empty_suffix os)) (in_room b os (whole_suffix os)))

    shown_may : (b : Bool) → Shown b → May p os b
    unfolding Shown May
    shown_may b k =
        let es = labels (Goes p) k.2.0 in
        let ends : (faulty p es, seen p es) ≡ (b, os) = sym (recalled es) ∙ k.2.1 in
        (es, k.0, walk_run p k.2.0, ap (λ (x : Bool × List ℕ). x.1) ends, ap (λ (x : Bool × List ℕ). x.0) ends)

    may_shown : (b : Bool) → May p os b → Shown b
    unfolding Shown May
    may_shown b m =
        let w = run_trace p m.2 in
        let ends : after recall (false, []) m.0 ≡ (b, os) = recalled m.0 ∙ (λ i. (m.4 i, m.3 i)) in
        (m.1, stays_inside (Goes p) fin w.0 first, (w.0, rw w.1 ends))

    pub may? : (b : Bool) → Dec (May p os b)
    may? b = map_dec (shown_may b) (may_shown b) (shown? b)

  pub known_one : (os : List ℕ) → (k : Known) × Knows p os k × ((l : Known) → Knows p os l → k ≡ l)
  unfolding Knows
  known_one os = cases (may? os true) (may? os false)
    where
      cases : Dec (May p os true) → Dec (May p os false) → (k : Known) × Knows p os k × ((l : Known) → Knows p os l → k ≡ l)
      cases (yes t) (yes f) = (either, (t, f), elim [ bad ↦ λ h. absurd (h.1 f) | good ↦ λ h. absurd (h.1 t) | either ↦ λ h. refl | neither ↦ λ h. absurd (h.0 t) ])
      cases (yes t) (no f) = (bad, (t, f), elim [ bad ↦ λ h. refl | good ↦ λ h. absurd (h.1 t) | either ↦ λ h. absurd (f h.1) | neither ↦ λ h. absurd (h.0 t) ])
      cases (no t) (yes f) = (good, (f, t), elim [ bad ↦ λ h. absurd (h.1 f) | good ↦ λ h. refl | either ↦ λ h. absurd (t h.0) | neither ↦ λ h. absurd (h.1 f) ])
      cases (no t) (no f) = (neither, (t, f), elim [ bad ↦ λ h. absurd (t h.0) | good ↦ λ h. absurd (f h.0) | either ↦ λ h. absurd (t h.0) | neither ↦ λ h. refl ])

pub known_one_all : KnownOne
known_one_all p os = known_one p os
