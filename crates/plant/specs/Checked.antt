-- What a check answers. This is a definition and assumes nothing.
use Rattle.std.specs.Prelude.{◌≡◌, Some, None, Ok, Err, Option, Result}
use Rattle.plant.specs.declared.lent.Numbers.{Numbers}
use Rattle.plant.specs.declared.lent.Plant.{Plant}
use Rattle.plant.specs.declared.parts.Refusal.{Refusal}
use Rattle.plant.specs.Numbers.{plant_in}
use Rattle.plant.specs.Plant.{Plant as Behaviour}
use Rattle.plant.specs.Refusals.{refusal}

-- an error just where there is a refusal, and that one
abbrev pub checked : Option Refusal → Result (Unit {0}) Refusal
checked None = Ok tt
checked (Some r) = Err r

-- what these numbers say, if no rule turns them away
abbrev pub behaviour : Numbers → Behaviour
behaviour n = plant_in n.arrows.now n.events.now

-- the first rule that turns these numbers away
abbrev pub refusal_in : Numbers → Option Refusal
refusal_in n = refusal n.states n.arrows.now n.events.now

-- the plant of these numbers, or that rule
abbrev pub PlantOf : Numbers → Result Plant Refusal → Type 0
PlantOf n (Ok p) = (p.states ≡ n.states) × (p.arrows.now ≡ n.arrows.now) × (p.events.now ≡ n.events.now)
PlantOf n (Err r) = refusal_in n ≡ Some r

-- an answer where no rule turns away what is lent, and what is said of it; else the first rule that does, and what it leaves
abbrev pub Answered : {A : Type 0} → Option Refusal → (A → Type 0) → Type 0 → Result A Refusal → Type 0
Answered refused Says Left (Ok a) = (refused ≡ None) × Says a
Answered refused Says Left (Err r) = (refused ≡ Some r) × Left
