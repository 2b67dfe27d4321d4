-- Which plants and rows are turned away. These are definitions and a statement; they assume nothing.
use Rattle.std.specs.Prelude.{◌≡◌, ℕ, zero, suc, ◌+◌, ◌-◌, ◌*◌, ◌/◌, ◌≤◌, Bool, cond, List, length, Some, None, Option, ◌==◌, slice_index}
use Rattle.std.specs.Option.{option_map}
use Rattle.plant.specs.declared.parts.Refusal.{Refusal}
use Rattle.plant.specs.declared.parts.Refusal.TheVariants.{Labelling}
use Rattle.plant.specs.Refusals.{or_else, refusal}
use Rattle.plant.specs.Validity.{Valid}

-- whether the event of that number is a fault
abbrev pub fault_in : (events : List ℕ) → ℕ → Bool
fault_in es e = slice_index es (2 * e + 1) == 1

-- of n events from e on, the one that is no fault and comes after so many others that are none
unfoldable pub sound_after : (fault : ℕ → Bool) (many e n : ℕ) → Option ℕ
sound_after fault many e zero = None
sound_after fault many e (suc n) =
    cond (fault e) (sound_after fault many (suc e) n)
    (cond (many == 0) (Some e) (sound_after fault (many - 1) (suc e) n))

-- 9: a row that has not one number for each event; more than six events that are no faults
unfoldable pub row_refusal : (events : List ℕ) (row : ℕ) → Option Refusal
row_refusal es row =
    cond (row == length es / 2) (option_map Labelling (sound_after (fault_in es) 6 0 (length es / 2))) (Some (Labelling row))

-- the first rule that applies: the plant's own, then the row's
abbrev pub labelling_refusal : (states : ℕ) (arrows events : List ℕ) (row : ℕ) → Option Refusal
labelling_refusal n xs es row = or_else (refusal n xs es) (row_refusal es row)

-- how many of n events from e on are no faults
unfoldable pub sound_events : (fault : ℕ → Bool) (e n : ℕ) → ℕ
sound_events fault e zero = 0
sound_events fault e (suc n) = cond (fault e) 0 1 + sound_events fault (suc e) n

-- what is accepted: a plant with at most six events that are no faults, and a row of one number for each event
pub record Fit (n : ℕ) (xs es : List ℕ) (row : ℕ) : Type 0 where
  pub valid : Valid n xs es
  pub long : row ≡ length es / 2
  pub few : sound_events (fault_in es) 0 (length es / 2) ≤ 6

-- nothing is turned away if and only if it fits
abbrev pub RefusedOrFit : Type 0
RefusedOrFit =
    (n : ℕ) (xs es : List ℕ) (row : ℕ)
    → (labelling_refusal n xs es row ≡ None → Fit n xs es row) × (Fit n xs es row → labelling_refusal n xs es row ≡ None)
