-- A plant with a set of its events shown, each by a sign of its own. A definition and statements; they assume nothing.
use Rattle.std.specs.Prelude.{◌≡◌, Bool, true, false, ℕ, ◌≤◌}
use Rattle.plant.specs.Plant.{Plant, ComesOutIn}

-- q is p with the events of the set shown: each of them shows something, and no other event shows the same; everything else is as in p
-- which signs are taken is left open
pub record Shown (p : Plant) (set : ℕ → Bool) (q : Plant) : Type 0 where
  pub arrows : q.arrows ≡ p.arrows
  pub faults : (e : ℕ) → q.fault e ≡ p.fault e
  pub others : (e : ℕ) → set e ≡ false → q.shows e ≡ p.shows e
  pub something : (e : ℕ) → set e ≡ true → q.shows e ≡ 0 → ⊥
  pub own : (e d : ℕ) → set e ≡ true → q.shows d ≡ q.shows e → d ≡ e

abbrev pub Within : (a b : ℕ → Bool) → Type 0
Within a b = (e : ℕ) → a e ≡ true → b e ≡ true

-- what comes out with a set shown does so with every set that it lies in, whichever signs are taken; for one set twice: the signs don't matter
abbrev pub ShownMore : Type 0
ShownMore = (p q r : Plant) (a b : ℕ → Bool) (n : ℕ) → Within a b → Shown p a q → Shown p b r → ComesOutIn q n → ComesOutIn r n

-- where signs have a bound, there is a plant with the set shown
abbrev pub ShownSome : Type 0
ShownSome = (p : Plant) (set : ℕ → Bool) (most : ℕ) → ((e : ℕ) → p.shows e ≤ most) → (q : Plant) × Shown p set q
