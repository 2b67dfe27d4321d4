-- What a checked plant stands for, and what is read of it. These are definitions and assume nothing.
use Rattle.std.specs.Prelude.{◌≡◌, ℕ, ◌/◌, ◌<◌, false, List, map, drop, length, slice_index_or}
use Rattle.plant.specs.declared.lent.Plant.{Plant as Lent}
use Rattle.plant.specs.declared.lent.steps.Steps.{Steps}
use Rattle.plant.specs.declared.parts.Arrow.{Arrow}
use Rattle.plant.specs.declared.parts.Event.{Event}
use Rattle.plant.specs.declared.parts.Step.{Step}
use Rattle.plant.specs.Plant.{Plant}
use Rattle.plant.specs.Numbers.{plant_in}
use Rattle.plant.specs.Validity.{Fits}

abbrev pub model : Lent → Plant
model p = plant_in p.arrows.now p.events.now

-- how many events it has
abbrev pub event_count : Lent → ℕ
event_count p = length p.events.now / 2

abbrev pub event_of : Plant → ℕ → Event
event_of p e = record { sign = p.shows e; fault = p.fault e }

abbrev pub step_of : Plant → Arrow → Step
step_of p a = record { from = a.from; event = a.event; sign = p.shows a.event; fault = p.fault a.event; to = a.to }

-- its arrows, each with what its event shows and is
unfoldable pub steps : Lent → List Step
steps p = map (step_of (model p)) (model p).arrows

-- those that an iterator has not given yet
unfoldable pub steps_left : Steps → List Step
steps_left s = drop s.next (steps s.plant)

-- what stands for an element past the end of a list
abbrev pub no_arrow : Arrow
no_arrow = record { from = 0; event = 0; to = 0 }

abbrev pub no_step : Step
no_step = record { from = 0; event = 0; sign = 0; fault = false; to = 0 }

-- a is arrow i, and lies between states and events that are there
pub record ArrowAt (p : Lent) (i : ℕ) (a : Arrow) : Type 0 where
  pub there : i < length (model p).arrows
  pub is : a ≡ slice_index_or (model p).arrows i no_arrow
  pub fits : Fits p.states (event_count p) a

-- v is event e
pub record EventAt (p : Lent) (e : ℕ) (v : Event) : Type 0 where
  pub there : e < event_count p
  pub is : v ≡ event_of (model p) e

-- s is step i, and goes between states that are there
pub record StepAt (p : Lent) (i : ℕ) (s : Step) : Type 0 where
  pub there : i < length (steps p)
  pub is : s ≡ slice_index_or (steps p) i no_step
  pub from : s.from < p.states
  pub to : s.to < p.states
