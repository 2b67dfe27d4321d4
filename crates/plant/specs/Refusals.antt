-- Which numbers are turned away, by which rule and at which place: the rules in their order. These are definitions and assume nothing.
use Rattle.std.specs.Prelude.{ℕ, suc, ◌-◌, ◌/◌, ◌%◌, cond, ◌&&◌, List, [], ◌∷◌, ◌++◌, length, Some, None, Option, codes, decimal, ◌==◌, nat_le, nat_lt, slice_index}
use Rattle.std.specs.Option.{option_map}
use Rattle.plant.specs.declared.parts.Refusal.{Refusal}
use Rattle.plant.specs.declared.parts.Refusal.TheVariants.{States, Events, Arrows, Room, Memory, Text, Sorts, Candidates, Labelling}

-- each case's number, and the place that it names
abbrev pub number_of : Refusal → ℕ
number_of (States k) = 1
number_of (Events k) = 2
number_of (Arrows k) = 3
number_of (Room k) = 4
number_of (Memory k) = 5
number_of (Text k) = 6
number_of (Sorts k) = 7
number_of (Candidates k) = 8
number_of (Labelling k) = 9

abbrev pub place_of : Refusal → ℕ
place_of (States k) = k
place_of (Events k) = k
place_of (Arrows k) = k
place_of (Room k) = k
place_of (Memory k) = k
place_of (Text k) = k
place_of (Sorts k) = k
place_of (Candidates k) = k
place_of (Labelling k) = k

-- the line that says so
abbrev pub turned_away : Refusal → List ℕ
turned_away r = codes "turned away: " ++ (decimal (number_of r) ++ (codes " at " ++ decimal (place_of r)))

-- the first of two refusals that there is
abbrev pub or_else : Option Refusal → Option Refusal → Option Refusal
or_else (Some r) next = Some r
or_else None next = next

-- the index of the first number, counted from i, that is not below the limit of its place; the limits recur
unfoldable pub first_over : (limits : List ℕ) (i : ℕ) → List ℕ → Option ℕ
first_over limits i [] = None
first_over limits i (x ∷ xs) = cond (nat_lt x (slice_index limits (i % length limits))) (first_over limits (suc i) xs) (Some i)

-- 1: no state, or more than 32
unfoldable pub states_refusal : (states : ℕ) → Option Refusal
states_refusal n = cond (nat_le 1 n && nat_le n 32) None (Some (States n))

-- 2: more than 64 events; half an event; a sign above 255 or a mark above 1
unfoldable pub events_refusal : (events : List ℕ) → Option Refusal
events_refusal es =
    cond (nat_lt 128 (length es)) (Some (Events 128))
    (cond (length es % 2 == 0) (option_map Events (first_over (256 ∷ 2 ∷ []) 0 es))
    (Some (Events (length es - 1))))

-- 3: part of an arrow; more than 1,024 arrows; a state or an event that is not there
unfoldable pub arrows_refusal : (states : ℕ) (arrows events : List ℕ) → Option Refusal
arrows_refusal n xs es =
    cond (length xs % 3 == 0)
    (cond (nat_lt 3072 (length xs)) (Some (Arrows 3072)) (option_map Arrows (first_over (n ∷ length es / 2 ∷ n ∷ []) 0 xs)))
    (Some (Arrows (length xs - length xs % 3)))

-- the first rule that applies
abbrev pub refusal : (states : ℕ) (arrows events : List ℕ) → Option Refusal
refusal n xs es = or_else (states_refusal n) (or_else (events_refusal es) (arrows_refusal n xs es))
