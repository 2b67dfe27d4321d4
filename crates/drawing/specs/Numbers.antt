-- The numbers that a drawn plant is handed on as. These are definitions and assume nothing.
use Rattle.std.specs.Prelude.{ℕ, ◌+◌, min, max, Bool, true, false, List, [], ◌∷◌}
use Rattle.std.specs.List.{flat_map}
use Rattle.drawing.specs.declared.shape.Arrow.{Arrow}
use Rattle.drawing.specs.Drawn.{Drawn, Kind}

-- the greatest state that an arrow of the list names, or n if that is more
abbrev pub greatest_from : ℕ → List Arrow → ℕ
greatest_from n [] = n
greatest_from n (a ∷ ys) = greatest_from (max (max n a.«from») a.to) ys

abbrev pub greatest : List Arrow → ℕ
greatest ys = greatest_from 0 ys

-- one more than the greatest state that is named, and at least one
abbrev pub states_of : Drawn → ℕ
states_of d = greatest d.ways + 1

-- in 16 bits, the most for whatever is larger
abbrev pub capped : ℕ → ℕ
capped n = min n 65535

abbrev pub bit : Bool → ℕ
bit true = 1
bit false = 0

abbrev pub three : Arrow → List ℕ
three a = capped a.«from» ∷ capped a.event ∷ capped a.to ∷ []

abbrev pub two : Kind → List ℕ
two k = capped k.sign ∷ bit k.fault ∷ []

abbrev pub arrow_numbers : Drawn → List ℕ
arrow_numbers d = flat_map three d.ways

abbrev pub event_numbers : Drawn → List ℕ
event_numbers d = flat_map two d.kinds
