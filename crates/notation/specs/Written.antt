-- A drawing as a text. These are definitions and assume nothing.
use Rattle.std.specs.Prelude.{ℕ, cond, List, [], ◌∷◌, ◌++◌, codes, decimal, slice_index_or}
use Rattle.std.specs.List.{flat_map}
use Rattle.drawing.specs.declared.shape.Arrow.{Arrow}
use Rattle.drawing.specs.Drawn.{Drawn, Kind}

abbrev pub event_lines : List ℕ → Kind → List ℕ
event_lines w k = w ++ (codes " shows " ++ (decimal k.sign ++ (codes "\n" ++ cond k.fault (w ++ codes " fault\n") [])))

abbrev pub all_events : List (List ℕ) → List Kind → List ℕ
all_events [] ks = []
all_events (w ∷ ws) [] = []
all_events (w ∷ ws) (k ∷ ks) = event_lines w k ++ all_events ws ks

abbrev pub arrow_text : Arrow → List ℕ → List ℕ
arrow_text a w = decimal a.«from» ++ (codes " " ++ (w ++ (codes " " ++ (decimal a.to ++ codes "\n"))))

abbrev pub arrow_line : List (List ℕ) → Arrow → List ℕ
arrow_line ws a = arrow_text a (slice_index_or ws a.event [])

-- the events by number, each with what it shows and whether it is a fault, and then the arrows
abbrev pub written : Drawn → List ℕ
written d = all_events d.labels d.kinds ++ flat_map (arrow_line d.labels) d.ways
