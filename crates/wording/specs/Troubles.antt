-- Why a text has no answer, as a line. These are definitions and assume nothing.
use Rattle.std.specs.Prelude.{ℕ, ◌+◌, ◌-◌, ◌/◌, ◌^◌, min, cond, List, ◌++◌, codes, decimal, ◌==◌}
use Rattle.plant.specs.declared.parts.Refusal.{Refusal}
use Rattle.plant.specs.declared.parts.Refusal.TheVariants.{States, Events, Arrows, Room, Text, Sorts, Candidates, Labelling}
use Rattle.plant.specs.declared.parts.Refusal.TheVariants as kinds
use Rattle.plant.specs.Refusals as refusals
use Rattle.drawing.specs.declared.reads.ReadError.{ReadError}
use Rattle.drawing.specs.declared.reads.ReadError.TheVariants.{Line, Memory}
use Rattle.wording.specs.declared.troubles.Trouble.{Trouble}
use Rattle.wording.specs.declared.troubles.Trouble.TheVariants.{Refused, NoMemory}

-- a line that can't be read turns the text away
abbrev pub from_reading : ReadError → Trouble
from_reading (Line n) = Refused (Text n)
from_reading Memory = NoMemory

-- lines and events are counted from 0; an editor counts lines from 1
abbrev pub line_in_editor : ℕ → ℕ
line_in_editor n = min (n + 1) (2 ^ 64 - 1)

-- what is wrong, in plain words
abbrev pub wrong : Refusal → List ℕ
wrong (States n) = codes "a plant has 1 to 32 states"
wrong (Events n) =
    cond (n == 128) (codes "a plant has at most 64 events")
    (codes "event " ++ (decimal (n / 2) ++ codes " counted from 0: a sign is at most 255, a mark at most 1"))
wrong (Arrows n) = codes "arrow " ++ (decimal (n / 3) ++ codes " counted from 0: a plant has at most 1024 arrows, between its states and by its events")
wrong (Room n) = codes "a room has at least eight places for each pair of states"
wrong (kinds.Memory n) = codes "a memory has a mark of at most 1 for each state and a sign is at most 255"
wrong (Text n) = codes "line " ++ (decimal (line_in_editor n) ++ codes " can't be read")
wrong (Sorts n) = codes "the sorts of faults are 1 to 8"
wrong (Candidates n) = codes "at most twelve events that show nothing have a price, each below 4294967296"
wrong (Labelling n) = codes "at most six events are no faults"

-- the line for a refusal: its rule and its place, and what is wrong
abbrev pub turned_away : Refusal → List ℕ
turned_away r = refusals.turned_away r ++ (codes " (" ++ (wrong r ++ codes ")"))

abbrev pub trouble : Trouble → List ℕ
trouble (Refused r) = turned_away r
trouble NoMemory = codes "memory is wanting"
