-- Two worked plants, as numbers: event 0 is a fault and shows nothing, 1 shows 1, 2 shows 2. Statements: they assume nothing.
use Rattle.std.specs.Prelude.{ℕ, List, [], ◌∷◌}
use Rattle.plant.specs.Plant.{Plant, ComesOutIn, Hides}
use Rattle.plant.specs.Numbers.{plant_in}

abbrev pub three_events : List ℕ
three_events = 0 ∷ 1 ∷ 1 ∷ 0 ∷ 2 ∷ 0 ∷ []

-- arrows 0 0 1, 1 1 2, 2 2 2, 0 1 0: behind the fault 1 is shown once more, and then only 2
abbrev pub told : Plant
told = plant_in (0 ∷ 0 ∷ 1 ∷ 1 ∷ 1 ∷ 2 ∷ 2 ∷ 2 ∷ 2 ∷ 0 ∷ 1 ∷ 0 ∷ []) three_events

abbrev pub ToldPlant : Type 0
ToldPlant = ComesOutIn told 2 × (ComesOutIn told 1 → ⊥)

-- arrows 0 0 1, 1 1 1, 0 1 0: behind the fault only 1 is shown, as before it
abbrev pub untold : Plant
untold = plant_in (0 ∷ 0 ∷ 1 ∷ 1 ∷ 1 ∷ 1 ∷ 0 ∷ 1 ∷ 0 ∷ []) three_events

abbrev pub HiddenPlant : Type 0
HiddenPlant = Hides untold (0 ∷ []) [] (1 ∷ []) (1 ∷ []) 1 0
