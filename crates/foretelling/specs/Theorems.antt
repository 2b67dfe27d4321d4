-- What holds of every plant: statements, each the promise of a function of its name. They assume nothing.
use Rattle.std.specs.Prelude.{◌≡◌, ℕ, ◌≤◌, min, false, ◌⊎◌, List, ◌++◌, length}
use Rattle.plant.specs.Plant.{Plant, Run, seen, faulty}
use Rattle.plant.specs.Theorems.{Within}
use Rattle.foretelling.specs.Foretelling.{Strikes, Lasts, Alarm, Foretells, Misses, Missed}

-- an alarm stays, whatever is shown then
abbrev pub AlarmStays : Type 0
AlarmStays = (p : Plant) (n : ℕ) (late early : List ℕ) → Alarm p n (seen p early) → Alarm p n (seen p (late ++ early))

-- an alarm at what each run shows after which a fault can happen
abbrev pub AtLast : Plant → ℕ → Type 0
AtLast p n = (es : List ℕ) (s : ℕ) → Run p 0 es s → faulty p es ≡ false → (fault : List ℕ) → Strikes p s fault → Alarm p n (seen p es)

-- only the last moment matters
abbrev pub LastMoment : Type 0
LastMoment = (p : Plant) (n : ℕ) → (Foretells p n → AtLast p n) × (AtLast p n → Foretells p n)

-- each fault is foretold, or two runs show that one is not
abbrev pub ForetoldOrMissed : Type 0
ForetoldOrMissed = (p : Plant) (n : ℕ) → Foretells p n ⊎ Missed p n

-- never both
abbrev pub NotForetold : Type 0
NotForetold = (p : Plant) (n : ℕ) → Missed p n → Foretells p n → ⊥

-- in no events only a plant foretells in which no fault can happen
abbrev pub InNone : Type 0
InNone = (p : Plant) → Foretells p 0 → (es : List ℕ) (s : ℕ) → Run p 0 es s → faulty p es ≡ false → (fault : List ℕ) → Strikes p s fault → ⊥

-- what lasts for as many events as there are states lasts for any number
abbrev pub Settles : Type 0
Settles = (p : Plant) (k n t : ℕ) → Within k p → 1 ≤ k → Lasts p k t → Lasts p n t

-- rows that go on by n events, or by as many as there are states, show that no first part of the first run has an alarm
abbrev pub Unwarned : Type 0
Unwarned =
    (p : Plant) (k n : ℕ) → Within k p → 1 ≤ k → (es fault fs later : List ℕ) → Misses p es fault fs later → length later ≡ min n k
    → (late early : List ℕ) → es ≡ late ++ early → Alarm p n (seen p early) → ⊥
