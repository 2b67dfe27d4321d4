-- Sorts of faults: an event's mark is its sort, 0 for none. What a plant is in which just the events of one sort are faults. These are definitions and assume nothing.
use Rattle.std.specs.Prelude.{ℕ, ◌+◌, ◌*◌, Bool, false, ◌||◌, List, [], ◌∷◌, ◌==◌, nat_lt, slice_index}
use Rattle.sets.specs.Sets.{bit}
use Rattle.plant.specs.Plant.{Plant}
use Rattle.plant.specs.Numbers.{arrows_in}
use Rattle.sorts.specs.declared.kinds.Faults.{Faults}
use Rattle.sorts.specs.declared.kinds.Faults.TheVariants.{Sort, Any}

-- whether an event of this mark counts as a fault
abbrev pub is_fault : Faults → (mark : ℕ) → Bool
is_fault (Sort k) m = m == k
is_fault Any m = nat_lt 0 m

-- the sort of an event
abbrev pub sort_of : (events : List ℕ) → ℕ → ℕ
sort_of es e = slice_index es (2 * e + 1)

-- the plant of these numbers in which just the events that count are faults; all that is judged and known of a sort is said of it
unfoldable pub plant_of : Faults → (arrows events : List ℕ) → Plant
plant_of f xs es = record { arrows = arrows_in xs; shows = λ e. slice_index es (2 * e); fault = λ e. is_fault f (sort_of es e) }

-- the same plant in numbers: a mark is 1 where the event counts and 0 elsewhere
unfoldable pub marked_by : Faults → (events : List ℕ) → List ℕ
marked_by f [] = []
marked_by f (s ∷ []) = s ∷ []
marked_by f (s ∷ (m ∷ es)) = s ∷ (bit (is_fault f m) ∷ marked_by f es)

-- whether some event has this mark
unfoldable pub occurs : (sort : ℕ) (events : List ℕ) → Bool
occurs k [] = false
occurs k (s ∷ []) = false
occurs k (s ∷ (m ∷ es)) = m == k || occurs k es
