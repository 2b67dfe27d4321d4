-- What is turned away where faults have sorts, by which rule and at which place. These are definitions and assume nothing.
use Rattle.std.specs.Prelude.{ℕ, cond, ◌&&◌, List, [], ◌∷◌, Some, None, Option, nat_le}
use Rattle.std.specs.Option.{option_map}
use Rattle.plant.specs.declared.parts.Refusal.{Refusal}
use Rattle.plant.specs.declared.parts.Refusal.TheVariants.{Sorts}
use Rattle.plant.specs.Refusals.{first_over, or_else, refusal}
use Rattle.observer.specs.Refusals.{follow_refusal}
use Rattle.diagnosability.specs.Verdict.{judge_refusal}
use Rattle.sorts.specs.declared.kinds.Faults.{Faults}
use Rattle.sorts.specs.declared.kinds.Faults.TheVariants.{Sort, Any}
use Rattle.sorts.specs.Sorts.{marked_by}

-- 7: a mark above 8, at its place among the numbers; no 16-bit number is too large for a sign here
unfoldable pub marks_refusal : (events : List ℕ) → Option Refusal
marks_refusal es = option_map Sorts (first_over (65536 ∷ 9 ∷ []) 0 es)

-- 7: a sort asked for that is 0 or above 8: which
unfoldable pub asked_refusal : Faults → Option Refusal
asked_refusal (Sort k) = cond (nat_le 1 k && nat_le k 8) None (Some (Sorts k))
asked_refusal Any = None

abbrev pub sorts_refusal : Faults → (events : List ℕ) → Option Refusal
sorts_refusal f es = or_else (marks_refusal es) (asked_refusal f)

-- the first rule that applies: the earlier ones over events whose marks are all 0 or 1, so that rule 2 does not speak of marks; then 7
abbrev pub plant_refusal : Faults → (states : ℕ) (arrows events : List ℕ) → Option Refusal
plant_refusal f n xs es = or_else (refusal n xs (marked_by f es)) (sorts_refusal f es)

-- with the rule for a room
abbrev pub room_too : Faults → (states : ℕ) (arrows events : List ℕ) (room : ℕ) → Option Refusal
room_too f n xs es room = or_else (judge_refusal n xs (marked_by f es) room) (sorts_refusal f es)

-- with the rules for a memory and a sign
abbrev pub memory_too : Faults → (states : ℕ) (arrows events memory : List ℕ) (sign : ℕ) → Option Refusal
memory_too f n xs es m o = or_else (follow_refusal n xs (marked_by f es) m o) (sorts_refusal f es)
