-- What is turned away before a sign is followed: the plant's own rules first, then those for the memory and the sign. These are definitions and assume nothing.
use Rattle.std.specs.Prelude.{ℕ, ◌*◌, cond, List, [], ◌∷◌, length, Some, None, Option, ◌==◌, nat_le}
use Rattle.std.specs.Option.{option_map}
use Rattle.plant.specs.declared.parts.Refusal.{Refusal}
use Rattle.plant.specs.declared.parts.Refusal.TheVariants.{Memory}
use Rattle.plant.specs.Refusals.{first_over, or_else, refusal}

-- 5: a memory that has not two marks for each state, at its length; a mark above 1, at its place
unfoldable pub marks_refusal : (states : ℕ) (memory : List ℕ) → Option Refusal
marks_refusal n m = cond (length m == 2 * n) (option_map Memory (first_over (2 ∷ []) 0 m)) (Some (Memory (length m)))

-- 5: a sign above 255
unfoldable pub sign_refusal : (sign : ℕ) → Option Refusal
sign_refusal o = cond (nat_le o 255) None (Some (Memory 0))

-- the first rule that applies; the memory is looked at also where sign 0 begins anew
abbrev pub follow_refusal : (states : ℕ) (arrows events memory : List ℕ) (sign : ℕ) → Option Refusal
follow_refusal n xs es m o = or_else (refusal n xs es) (or_else (marks_refusal n m) (sign_refusal o))
