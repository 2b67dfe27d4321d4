-- One plant under two views: the same arrows and faults, other signs. A definition and statements; they assume nothing.
use Rattle.std.specs.Prelude.{◌≡◌, ℕ}
use Rattle.plant.specs.Plant.{Plant, ComesOutIn}

-- q shows no less than p: what q shows alike p shows alike, and where q shows nothing p shows nothing
pub record FinerView (p q : Plant) : Type 0 where
  pub arrows : q.arrows ≡ p.arrows
  pub faults : (e : ℕ) → q.fault e ≡ p.fault e
  pub nothing : (e : ℕ) → q.shows e ≡ 0 → p.shows e ≡ 0
  pub alike : (e d : ℕ) → q.shows e ≡ q.shows d → p.shows e ≡ p.shows d

-- what comes out in n events does so where no less is shown
abbrev pub FinerOut : Type 0
FinerOut = (p q : Plant) (n : ℕ) → FinerView p q → ComesOutIn p n → ComesOutIn q n

-- q shows the same as p by other signs
abbrev pub Renamed : Plant → Plant → Type 0
Renamed p q = FinerView p q × FinerView q p

-- what signs are called changes nothing, in both directions
abbrev pub Renaming : Type 0
Renaming = (p q : Plant) (n : ℕ) → Renamed p q → (ComesOutIn p n → ComesOutIn q n) × (ComesOutIn q n → ComesOutIn p n)
