-- A plant as the numbers that are lent: three for an arrow, two for an event. These are definitions and assume nothing.
use Rattle.std.specs.Prelude.{ℕ, ◌+◌, ◌*◌, List, [], ◌∷◌, ◌==◌, slice_index}
use Rattle.plant.specs.declared.parts.Arrow.{Arrow}
use Rattle.plant.specs.Plant.{Plant}

-- from, event, to; what is left over at the end is no arrow
unfoldable pub arrows_in : List ℕ → List Arrow
arrows_in [] = []
arrows_in (a ∷ []) = []
arrows_in (a ∷ (b ∷ [])) = []
arrows_in (a ∷ (b ∷ (c ∷ xs))) = record { from = a; event = b; to = c } ∷ arrows_in xs

-- for each event what it shows, and 1 if it is a fault
unfoldable pub plant_in : (arrows events : List ℕ) → Plant
plant_in xs es = record { arrows = arrows_in xs; shows = λ e. slice_index es (2 * e); fault = λ e. (slice_index es (2 * e + 1) == 1) }
