-- What a plant is, what of it is seen, and what it means that a fault is known, comes out or hides. A reader has to believe these definitions; they assume nothing.
-- There is no bound on states, events or arrows here: bounds belong to the functions that take a plant.
use Rattle.std.specs.Prelude.{◌≡◌, ℕ, ◌≤◌, Bool, true, false, cond, ◌||◌, List, [], ◌∷◌, ◌++◌, length, ◌==◌}
use Rattle.graph.specs.Member.{Among}
use Rattle.plant.specs.declared.parts.Arrow.{Arrow}

-- states and events are numbers, and a plant begins in state 0; several arrows may leave a state by the same event
-- an event shows a sign, 0 being nothing, and is a fault or is none
pub record Plant : Type 0 where
  pub arrows : List Arrow
  pub shows : ℕ → ℕ
  pub fault : ℕ → Bool

-- events one after the other along arrows, from s to a state; the latest event stands first
pub data Run (p : Plant) (s : ℕ) : List ℕ → ℕ → Type 0 where
  stands : Run p s [] s
  goes : (es : List ℕ) (t e u : ℕ) → Run p s es t → Among (record { from = t; event = e; to = u }) p.arrows → Run p s (e ∷ es) u

-- the signs of events, what shows nothing left out; the latest sign stands first
unfoldable pub seen : Plant → List ℕ → List ℕ
seen p [] = []
seen p (e ∷ es) = cond (p.shows e == 0) (seen p es) (p.shows e ∷ seen p es)

-- whether one of the events is a fault
unfoldable pub faulty : Plant → List ℕ → Bool
faulty p [] = false
faulty p (e ∷ es) = p.fault e || faulty p es

-- what is known after signs: that a fault has happened, that none has, that either may be, or that no run shows them
pub data Known : Type 0 where
  bad : Known
  good : Known
  either : Known
  neither : Known

-- some run from the beginning shows just these signs, with a fault (true) or without one (false)
unfoldable pub May : Plant → List ℕ → Bool → Type 0
May p os b = (es : List ℕ) × (t : ℕ) × Run p 0 es t × (seen p es ≡ os) × (faulty p es ≡ b)

unfoldable pub Knows : Plant → List ℕ → Known → Type 0
Knows p os bad = May p os true × (May p os false → ⊥)
Knows p os good = May p os false × (May p os true → ⊥)
Knows p os either = May p os true × May p os false
Knows p os neither = (May p os true → ⊥) × (May p os false → ⊥)

-- no run with n or more events behind a first part that has a fault shows what some run without a fault shows
unfoldable pub ComesOutIn : Plant → ℕ → Type 0
ComesOutIn p n =
    (late early : List ℕ) (t : ℕ) → Run p 0 (late ++ early) t → faulty p early ≡ true → n ≤ length late → May p (seen p (late ++ early)) false → ⊥

-- every fault comes out, after some number of events
unfoldable pub ComesOut : Plant → Type 0
ComesOut p = (n : ℕ) × ComesOutIn p n

-- two runs that hide a fault for ever: es has a fault, fs has none, and they show the same; from where each has come there is a way round, and the two ways show the same, es's with at least one event, fs's without a fault
pub record Hides (p : Plant) (es fs round other : List ℕ) (s t : ℕ) : Type 0 where
  pub run : Run p 0 es s
  pub bad : faulty p es ≡ true
  pub run_2 : Run p 0 fs t
  pub fine : faulty p fs ≡ false
  pub same : seen p es ≡ seen p fs
  pub goes_round : Run p s round s
  pub some : 1 ≤ length round
  pub goes_round_2 : Run p t other t
  pub fine_2 : faulty p other ≡ false
  pub same_2 : seen p round ≡ seen p other
