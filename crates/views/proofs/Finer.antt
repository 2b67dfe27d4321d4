-- Where no less is shown nothing comes out later. Assumes nothing.
use mathlib.Core.Path.{◌≡◌, refl, sym, subst, ◌∙◌}
use mathlib.Core.Bool.{cond, Bool, true, false}
use mathlib.Core.List.{List, [], ◌∷◌, ◌++◌}
use Prim.Native.Nat.{ℕ}
use native.Mathlib.Omega.{arith}
use lib.Dec.{eqb}
use borrow.Author.Tests.{eqb-true, eq-eqb}
use Rattle.graph.specs.Member.{Among}
use Rattle.plant.specs.declared.parts.Arrow.{Arrow}
use Rattle.plant.specs.Plant.{Plant, Run, stands, goes, seen, faulty, May, ComesOutIn}
use Rattle.views.specs.Views.{FinerView, FinerOut, Renaming}

module _ (p q : Plant) (finer : FinerView p q) where
  run_back : {s u : ℕ} {es : List ℕ} → Run q s es u → Run p s es u
  run_back stands = stands
  run_back (goes es t e u r m) = goes es t e u (run_back r) (subst (λ (xs : List Arrow). Among (record { from = t; event = e; to = u }) xs) finer.arrows m)

  faulty_same : (es : List ℕ) → faulty q es ≡ faulty p es
  unfolding faulty
  faulty_same [] = refl
  faulty_same (e ∷ es) = rw (finer.faults e, faulty_same es) refl

  -- what q does not show p does not show
  unseen : (es : List ℕ) → [] ≡ seen q es → [] ≡ seen p es
  unfolding seen
  unseen [] h = refl
  unseen (e ∷ es) h = by_sign (eqb (q.shows e) 0) refl h (unseen es)
    where
      by_sign : (b : Bool) → eqb (q.shows e) 0 ≡ b → [] ≡ cond b (seen q es) (q.shows e ∷ seen q es) → ([] ≡ seen q es → [] ≡ seen p es) → [] ≡ cond (eqb (p.shows e) 0) (seen p es) (p.shows e ∷ seen p es)
      by_sign true b h below = rw (eq-eqb (p.shows e) 0 (finer.nothing e (eqb-true (q.shows e) 0 b))) (below h)
      by_sign false b h below = let z : ◌≡◌ {A = ℕ} 0 1 = cc in absurd (omega arith)

  -- a sign is met by the next event of the other row that shows something
  met : (e : ℕ) (es : List ℕ) → ((gs : List ℕ) → seen q es ≡ seen q gs → seen p es ≡ seen p gs) → (fs : List ℕ) → q.shows e ∷ seen q es ≡ seen q fs
      → cond (eqb (p.shows e) 0) (seen p es) (p.shows e ∷ seen p es) ≡ seen p fs
  unfolding seen
  met e es below [] h = let z : ◌≡◌ {A = ℕ} 0 1 = cc in absurd (omega arith)
  met e es below (d ∷ fs) h = by_sign (eqb (q.shows d) 0) refl h (met e es below fs)
    where
      by_sign : (b : Bool) → eqb (q.shows d) 0 ≡ b → q.shows e ∷ seen q es ≡ cond b (seen q fs) (q.shows d ∷ seen q fs)
          → (q.shows e ∷ seen q es ≡ seen q fs → cond (eqb (p.shows e) 0) (seen p es) (p.shows e ∷ seen p es) ≡ seen p fs)
          → cond (eqb (p.shows e) 0) (seen p es) (p.shows e ∷ seen p es) ≡ cond (eqb (p.shows d) 0) (seen p fs) (p.shows d ∷ seen p fs)
      by_sign true b h later = rw (eq-eqb (p.shows d) 0 (finer.nothing d (eqb-true (q.shows d) 0 b))) (later h)
      by_sign false b h later =
          let sign : q.shows e ≡ q.shows d = cc in
          let rest : seen q es ≡ seen q fs = cc in
          rw (finer.alike e d sign, below fs rest) refl

  -- rows that q shows alike p shows alike
  seen_back : (es fs : List ℕ) → seen q es ≡ seen q fs → seen p es ≡ seen p fs
  unfolding seen
  seen_back [] fs h = unseen fs h
  seen_back (e ∷ es) fs h = by_sign (eqb (q.shows e) 0) refl h (seen_back es)
    where
      by_sign : (b : Bool) → eqb (q.shows e) 0 ≡ b → cond b (seen q es) (q.shows e ∷ seen q es) ≡ seen q fs → ((gs : List ℕ) → seen q es ≡ seen q gs → seen p es ≡ seen p gs)
          → cond (eqb (p.shows e) 0) (seen p es) (p.shows e ∷ seen p es) ≡ seen p fs
      by_sign true b h below = rw (eq-eqb (p.shows e) 0 (finer.nothing e (eqb-true (q.shows e) 0 b))) (below fs h)
      by_sign false b h below = met e es below fs h

pub finer_out : FinerOut
unfolding ComesOutIn May
finer_out p q n finer out late early t r bad long may =
    out late early t (run_back p q finer r) (sym (faulty_same p q finer early) ∙ bad) long
    (may.0, may.1, run_back p q finer may.2, seen_back p q finer may.0 (late ++ early) may.3, sym (faulty_same p q finer may.0) ∙ may.4)

pub renaming : Renaming
renaming p q n both = (finer_out p q n both.0, finer_out q p n both.1)
