-- Events of which the marks say only whether they count, held by value, and the plant that they make. These are definitions and assume nothing.
use Rattle.std.specs.Prelude.{◌≡◌, ℕ, List, Some, None, Ok, Err, Result, take}
use Rattle.plant.specs.declared.parts.Refusal.{Refusal}
use Rattle.plant.specs.Numbers.{plant_in}
use Rattle.plant.specs.Refusals.{refusal}
use Rattle.sorts.specs.declared.held.Marked.{Marked}
use Rattle.sorts.specs.declared.kinds.Faults.{Faults}
use Rattle.sorts.specs.Sorts.{marked_by, plant_of}
use Rattle.sorts.specs.Refusals.{plant_refusal}

abbrev pub numbers_in : Marked → List ℕ
numbers_in m = take m.count m.numbers

-- no rule refuses the plant, nor the numbers that are held, and these make the plant in which just the events that count are faults
pub record Held (f : Faults) (n : ℕ) (xs es : List ℕ) (m : Marked) : Type 0 where
  pub accepted : plant_refusal f n xs es ≡ None
  pub valid : refusal n xs (numbers_in m) ≡ None
  pub numbers : numbers_in m ≡ marked_by f es
  pub plant : plant_in xs (numbers_in m) ≡ plant_of f xs es

abbrev pub Chosen : Faults → (states : ℕ) (arrows events : List ℕ) → Result Marked Refusal → Type 0
Chosen f n xs es (Ok m) = Held f n xs es m
Chosen f n xs es (Err r) = plant_refusal f n xs es ≡ Some r
