-- What is known after signs. Assumes nothing.
use Rattle.std.proofs.Common.{◌≡◌, ℕ, Bool, true, false, cond, ◌||◌, eqb, List, [], ◌∷◌, ◌++◌, sym, refl, ap, ◌∙◌, arith}
use Rattle.plant.specs.Plant.{Plant, Run, stands, goes, seen, faulty, May, Knows}
use Rattle.plant.specs.Theorems.{BadStays}
use Rattle.plant.proofs.Runs.{faulty-append}

pub or_false_left : (a b : Bool) → (a || b) ≡ false → a ≡ false
or_false_left true b e = e
or_false_left false b e = refl

pub or_false_right : (a b : Bool) → (a || b) ≡ false → b ≡ false
or_false_right true b e = let z : ◌≡◌ {A = ℕ} 0 1 = cc in absurd (omega arith)
or_false_right false b e = e

-- a run cut between two signs
pub record SignsCut (p : Plant) (s u : ℕ) (es xs os : List ℕ) : Type 0 where
  pub early : List ℕ
  pub late : List ℕ
  pub mid : ℕ
  pub whole : es ≡ late ++ early
  pub first : Run p s early mid
  pub then : Run p mid late u
  pub seen_first : seen p early ≡ os
  pub seen_then : seen p late ≡ xs

module _ (p : Plant) where
  pub cut_signs : {s u : ℕ} {es : List ℕ} → Run p s es u → (xs os : List ℕ) → seen p es ≡ xs ++ os → SignsCut p s u es xs os
  unfolding seen
  cut_signs stands [] os h = record { early = []; late = []; mid = _; whole = refl; first = stands; then = stands; seen_first = h; seen_then = refl }
  cut_signs stands (x ∷ xs) os h = let z : ◌≡◌ {A = ℕ} 0 1 = cc in absurd (omega arith)
  cut_signs (goes es t e u r m) [] os h = record { early = e ∷ es; late = []; mid = u; whole = refl; first = goes es t e u r m; then = stands; seen_first = h; seen_then = refl }
  cut_signs {s} (goes es t e u r m) (x ∷ xs) os h = by_sign (eqb (p.shows e) 0) refl h (cut_signs r (x ∷ xs) os) (cut_signs r xs os)
    where
      by_sign : (b : Bool) → eqb (p.shows e) 0 ≡ b → cond b (seen p es) (p.shows e ∷ seen p es) ≡ x ∷ (xs ++ os) → (seen p es ≡ x ∷ (xs ++ os) → SignsCut p s t es (x ∷ xs) os) → (seen p es ≡ xs ++ os → SignsCut p s t es xs os) → SignsCut p s u (e ∷ es) (x ∷ xs) os
      by_sign true b h same fewer =
          let k = same h in
          record { early = k.early; late = e ∷ k.late; mid = k.mid; whole = ap (λ (l : List ℕ). e ∷ l) k.whole; first = k.first; then = goes k.late t e u k.then m; seen_first = k.seen_first; seen_then = rw b k.seen_then }
      by_sign false b h same fewer =
          let tail : seen p es ≡ xs ++ os = cc in
          let k = fewer tail in
          let shown : seen p k.late ≡ xs = k.seen_then in
          let head : p.shows e ≡ x = cc in
          record { early = k.early; late = e ∷ k.late; mid = k.mid; whole = ap (λ (l : List ℕ). e ∷ l) k.whole; first = k.first; then = goes k.late t e u k.then m; seen_first = k.seen_first; seen_then = rw (b, head, shown) }

-- the early part of a run without fault has none
pub fine_early : (p : Plant) (late early : List ℕ) → faulty p (late ++ early) ≡ false → faulty p early ≡ false
fine_early p late early h = or_false_right (faulty p late) (faulty p early) (sym (faulty-append p late early) ∙ h)

pub bad_stays : BadStays
unfolding Knows May
bad_stays p os o knows may =
    let k = cut_signs p may.2 (o ∷ []) os may.3 in
    knows.1 (k.early, k.mid, k.first, k.seen_first, fine_early p k.late k.early (sym (ap (faulty p) k.whole) ∙ may.4))
