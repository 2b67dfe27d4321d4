-- Runs joined, and what is seen of them. Assumes nothing.
use Rattle.std.proofs.Common.{◌≡◌, ℕ, Bool, true, false, cond, ◌||◌, eqb, List, [], ◌∷◌, ◌++◌, sym, refl, ap, ◌∙◌}
use mathlib.Core.Bool.{or_assoc}
use Rattle.plant.specs.Plant.{Plant, Run, stands, goes, seen, faulty}

module _ (p : Plant) where
  pub run_join : {s t u : ℕ} {es fs : List ℕ} → Run p s es t → Run p t fs u → Run p s (fs ++ es) u
  run_join r stands = r
  run_join {es = es} r (goes fs t e u q m) = goes (fs ++ es) t e u (run_join r q) m

  pub seen-append : (fs es : List ℕ) → seen p (fs ++ es) ≡ seen p fs ++ seen p es
  unfolding seen
  seen-append [] es = refl
  seen-append (f ∷ fs) es = by_sign (eqb (p.shows f) 0) (seen-append fs es)
    where
      by_sign : (b : Bool) → seen p (fs ++ es) ≡ seen p fs ++ seen p es → cond b (seen p (fs ++ es)) (p.shows f ∷ seen p (fs ++ es)) ≡ cond b (seen p fs) (p.shows f ∷ seen p fs) ++ seen p es
      by_sign true e = e
      by_sign false e = ap (λ (os : List ℕ). p.shows f ∷ os) e

  pub faulty-append : (fs es : List ℕ) → faulty p (fs ++ es) ≡ (faulty p fs || faulty p es)
  unfolding faulty
  faulty-append [] es = refl
  faulty-append (f ∷ fs) es = ap (λ (b : Bool). p.fault f || b) (faulty-append fs es) ∙ sym (or_assoc (p.fault f) (faulty p fs) (faulty p es))
