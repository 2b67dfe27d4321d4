-- Which sign a word says. These are definitions and assume nothing.
use Rattle.std.specs.Prelude.{ℕ, ◌+◌, ◌-◌, ◌*◌, Bool, true, cond, ◌&&◌, List, [], ◌∷◌, Ok, Err, Result, nat_le}
use Rattle.plant.specs.declared.parts.Refusal.{Refusal}
use Rattle.plant.specs.declared.parts.Refusal.TheVariants.{Memory, Text}

abbrev pub digit : ℕ → Bool
digit b = nat_le 48 b && nat_le b 57

unfoldable pub digits : List ℕ → Bool
digits [] = true
digits (b ∷ bs) = digit b && digits bs

-- the number that digits go on to, where those before them say n
unfoldable pub value_from : ℕ → List ℕ → ℕ
value_from n [] = n
value_from n (b ∷ bs) = value_from (10 * n + (b - 48)) bs

-- 5: a sign above 255
abbrev pub in_range : (place : ℕ) → ℕ → Result ℕ Refusal
in_range k n = cond (nat_le n 255) (Ok n) (Err (Memory k))

-- a row of digits is a number, however long; a sign is at most 255
-- 6: a word at place k that is no row of digits
abbrev pub sign_of : (place : ℕ) → List ℕ → Result ℕ Refusal
sign_of k [] = Err (Text k)
sign_of k (b ∷ bs) = cond (digits (b ∷ bs)) (in_range k (value_from 0 (b ∷ bs))) (Err (Text k))
