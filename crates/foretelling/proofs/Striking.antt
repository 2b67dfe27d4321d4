-- A fault that can happen in a state is an arrow from it. Assumes nothing.
use Rattle.std.proofs.Common.{◌≡◌, ℕ, Bool, true, false, ◌||◌, List, [], ◌∷◌, length, refl, arith}
use Rattle.graph.specs.Member.{Among}
use Rattle.plant.specs.declared.parts.Arrow.{Arrow}
use Rattle.plant.specs.Plant.{Plant, Run, stands, goes, faulty}
use Rattle.plant.specs.Twin.{Goes}
use Rattle.foretelling.specs.Foretelling.{Strikes}

module _ (p : Plant) where
  pub struck_by : {a : Arrow} → Among a p.arrows → p.fault a.event ≡ true → Strikes p a.from (a.event ∷ [])
  unfolding faulty
  struck_by {a} m f = record { end = a.to; run = goes [] a.from a.event a.to stands m; one = refl; bad = rw f refl }

  pub struck_arrow : {s : ℕ} {f : List ℕ} → Strikes p s f → (e : ℕ) × (u : ℕ) × Goes p e s u × (p.fault e ≡ true)
  unfolding faulty
  struck_arrow {s} k = by_run k.run k.one k.bad
    where
      ArrowOf : Type 0
      ArrowOf = (e : ℕ) × (u : ℕ) × Goes p e s u × (p.fault e ≡ true)

      only : (b : Bool) → (b || false) ≡ true → b ≡ true
      only true h = h
      only false h = h

      begins : {es : List ℕ} {t : ℕ} (e u : ℕ) → Run p s es t → length es ≡ 0 → Goes p e t u → (p.fault e || faulty p es) ≡ true → ArrowOf
      begins e u stands z m h = (e, u, m, only (p.fault e) h)
      begins e u (goes es t d v r n) z m h = absurd (omega arith)

      by_run : {es : List ℕ} {u : ℕ} → Run p s es u → length es ≡ 1 → faulty p es ≡ true → ArrowOf
      by_run stands o h = absurd (omega arith)
      by_run (goes es t e u r m) o h = begins e u r (omega arith) m h
