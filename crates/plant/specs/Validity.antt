-- Which numbers make a plant, said of its states, events and arrows. These are definitions and a statement; they assume nothing.
use Rattle.std.specs.Prelude.{◌≡◌, ℕ, ◌+◌, ◌*◌, ◌/◌, ◌<◌, ◌≤◌, List, length, None, slice_index}
use Rattle.std.specs.List.{AllByRecursion}
use Rattle.plant.specs.declared.parts.Arrow.{Arrow}
use Rattle.plant.specs.Numbers.{arrows_in}
use Rattle.plant.specs.Refusals.{refusal}

-- an arrow between n states, by one of m events
pub record Fits (n m : ℕ) (a : Arrow) : Type 0 where
  pub from : a.from < n
  pub event : a.event < m
  pub to : a.to < n

pub record Valid (n : ℕ) (xs es : List ℕ) : Type 0 where
  pub some_state : 1 ≤ n
  pub few_states : n ≤ 32
  pub whole_events : length es ≡ 2 * (length es / 2)
  pub few_events : length es / 2 ≤ 64
  pub signs : (e : ℕ) → e < length es / 2 → slice_index es (2 * e) ≤ 255
  pub marks : (e : ℕ) → e < length es / 2 → slice_index es (2 * e + 1) ≤ 1
  pub whole_arrows : length xs ≡ 3 * length (arrows_in xs)
  pub few_arrows : length (arrows_in xs) ≤ 1024
  pub fits : AllByRecursion (Fits n (length es / 2)) (arrows_in xs)

-- no rule turns the numbers away if and only if they make a plant
abbrev pub RefusedOrValid : Type 0
RefusedOrValid = (n : ℕ) (xs es : List ℕ) → (refusal n xs es ≡ None → Valid n xs es) × (Valid n xs es → refusal n xs es ≡ None)
