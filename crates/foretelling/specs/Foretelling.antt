-- What it means that the faults of a plant are foretold. A reader has to believe these definitions; they assume nothing.
use Rattle.std.specs.Prelude.{◌≡◌, ℕ, true, false, List, ◌++◌, length}
use Rattle.plant.specs.Plant.{Plant, Run, seen, faulty}

-- a fault, one event, that can happen in state s
pub record Strikes (p : Plant) (s : ℕ) (fault : List ℕ) : Type 0 where
  pub end : ℕ
  pub run : Run p s fault end
  pub one : length fault ≡ 1
  pub bad : faulty p fault ≡ true

-- events without a fault that can follow in state t
pub record GoesOn (p : Plant) (t : ℕ) (later : List ℕ) : Type 0 where
  pub end : ℕ
  pub run : Run p t later end
  pub fine : faulty p later ≡ false

-- n events without a fault can follow
pub record Lasts (p : Plant) (n t : ℕ) : Type 0 where
  pub later : List ℕ
  pub on : GoesOn p t later
  pub many : length later ≡ n

-- an alarm at signs: no run without a fault that shows them goes on by n events without a fault
-- a run that cannot go on by as many says nothing against it
abbrev pub Alarm : Plant → ℕ → (signs : List ℕ) → Type 0
Alarm p n os = (es : List ℕ) (t : ℕ) → Run p 0 es t → faulty p es ≡ false → seen p es ≡ os → Lasts p n t → ⊥

-- there is an alarm at what some first part of a run shows; the whole run is such a part, and so is the empty one
pub record Warned (p : Plant) (n : ℕ) (es : List ℕ) : Type 0 where
  pub early : List ℕ
  pub late : List ℕ
  pub whole : es ≡ late ++ early
  pub alarm : Alarm p n (seen p early)

-- each fault is foretold: there is an alarm before it, in every run without a fault after which one can happen
abbrev pub Foretells : Plant → ℕ → Type 0
Foretells p n = (es : List ℕ) (s : ℕ) → Run p 0 es s → faulty p es ≡ false → (fault : List ℕ) → Strikes p s fault → Warned p n es

-- two runs without a fault, to s and to t, that show the same
pub record Alike (p : Plant) (es fs : List ℕ) (s t : ℕ) : Type 0 where
  pub run : Run p 0 es s
  pub fine : faulty p es ≡ false
  pub run_2 : Run p 0 fs t
  pub fine_2 : faulty p fs ≡ false
  pub same : seen p es ≡ seen p fs

-- two such runs, a fault that can happen after the one, and events without a fault that can follow after the other
pub record Misses (p : Plant) (es fault fs later : List ℕ) : Type 0 where
  pub s : ℕ
  pub t : ℕ
  pub runs : Alike p es fs s t
  pub strikes : Strikes p s fault
  pub goes_on : GoesOn p t later

-- such runs, the other one going on by n events
pub record Missed (p : Plant) (n : ℕ) : Type 0 where
  pub es : List ℕ
  pub fault : List ℕ
  pub fs : List ℕ
  pub later : List ℕ
  pub misses : Misses p es fault fs later
  pub many : length later ≡ n
