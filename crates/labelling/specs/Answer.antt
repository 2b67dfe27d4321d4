-- What an answer says of a plant and of the row that was lent. This is a definition and assumes nothing.
use Rattle.std.specs.Prelude.{◌≡◌, ℕ, List, Some, None, Option}
use Rattle.plant.specs.Plant.{Plant}
use Rattle.labelling.specs.Labels.{FewestSigns, NoLabelling}

-- what each answer says of a plant of m events
-- some: the row is a labelling that does, of this many signs, and none that does has fewer
-- none: no labelling does, and the row is as it was
abbrev pub LabellingSays : Plant → (m : ℕ) (row : List ℕ) → Option ℕ → (row₁ : List ℕ) → Type 0
LabellingSays p m row (Some k) row₁ = FewestSigns p m row₁ k
LabellingSays p m row None row₁ = (row₁ ≡ row) × NoLabelling p m
