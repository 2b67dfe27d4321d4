-- Where more is seen nothing comes out later. Assumes nothing.
use Rattle.std.proofs.Common.{◌≡◌, ℕ, Bool, true, false, cond, ◌||◌, eqb, List, [], ◌∷◌, ◌++◌, sym, refl, ap, ◌∙◌, eq-eqb, eqb-true}
use Rattle.plant.specs.Plant.{Plant, Run, stands, goes, seen, faulty, May, ComesOutIn}
use Rattle.plant.specs.Theorems.{with_shows, Finer, MoreSeen}

-- what is left of signs that are read by h
shown : (ℕ → ℕ) → List ℕ → List ℕ
shown h [] = []
shown h (o ∷ os) = cond (eqb (h o) 0) (shown h os) (h o ∷ shown h os)

module _ (p : Plant) (f : ℕ → ℕ) where
  pub run_with : {s t : ℕ} {es : List ℕ} → Run (with_shows p f) s es t → Run p s es t
  run_with stands = stands
  run_with (goes es t e u r m) = goes es t e u (run_with r) m

  pub faulty_with : (es : List ℕ) → faulty (with_shows p f) es ≡ faulty p es
  unfolding faulty
  faulty_with [] = refl
  faulty_with (e ∷ es) = ap (λ (b : Bool). p.fault e || b) (faulty_with es)

  seen_with : (h : ℕ → ℕ) → h 0 ≡ 0 → Finer f p.shows h → (es : List ℕ) → seen p es ≡ shown h (seen (with_shows p f) es)
  unfolding seen shown
  seen_with h z finer [] = refl
  seen_with h z finer (e ∷ es) = by_sign (eqb (f e) 0) refl (seen_with h z finer es)
    where
      rest : List ℕ
      rest = seen (with_shows p f) es

      by_sign : (b : Bool) → eqb (f e) 0 ≡ b → seen p es ≡ shown h rest → cond (eqb (p.shows e) 0) (seen p es) (p.shows e ∷ seen p es) ≡ shown h (cond b rest (f e ∷ rest))
      by_sign true b ih =
          let none : p.shows e ≡ 0 = sym (finer e) ∙ ap h (eqb-true (f e) 0 b) ∙ z in
          rw (eq-eqb (p.shows e) 0 none) ih
      by_sign false b ih = rw (finer e, ih) refl

pub more_seen : MoreSeen
unfolding ComesOutIn May
more_seen p f h n z finer out late early t r bad long may =
    let fs = may.0 in
    let same : seen p fs ≡ seen p (late ++ early) = seen_with p f h z finer fs ∙ ap (shown h) may.3 ∙ sym (seen_with p f h z finer (late ++ early)) in
    out late early t (run_with p f r) (sym (faulty_with p f early) ∙ bad) long (fs, may.1, run_with p f may.2, same, sym (faulty_with p f fs) ∙ may.4)
