-- Events that might be made to show something, sets of them, what these cost, and which candidates are turned away. These are definitions and a statement; they assume nothing.
use Rattle.std.specs.Prelude.{◌≡◌, ℕ, zero, suc, ◌+◌, ◌*◌, ◌/◌, ◌<◌, ◌≤◌, Bool, false, cond, not, ◌&&◌, ◌||◌, List, [], ◌∷◌, length, take, Some, None, Option, ◌==◌, nat_le, nat_lt, slice_index}
use Rattle.std.specs.List.{list_any}
use Rattle.std.specs.Option.{option_map}
use Rattle.plant.specs.declared.parts.Refusal.{Refusal}
use Rattle.plant.specs.declared.parts.Refusal.TheVariants.{Candidates}
use Rattle.plant.specs.Refusals.{or_else, refusal}
use Rattle.plant.specs.Validity.{Valid}

-- a row of marks beside the candidates is a set of them: those with mark 1
unfoldable pub chosen : (candidates marks : List ℕ) → ℕ → Bool
chosen [] ms e = false
chosen (c ∷ cs) [] e = false
chosen (c ∷ cs) (m ∷ ms) e = (m == 1 && c == e) || chosen cs ms e

-- the sum of their prices
unfoldable pub cost : (prices marks : List ℕ) → ℕ
cost [] ms = 0
cost (p ∷ ps) [] = 0
cost (p ∷ ps) (m ∷ ms) = cond (m == 1) p 0 + cost ps ms

-- whether the event is one of these
abbrev pub named : ℕ → List ℕ → Bool
named e cs = list_any (λ c. c == e) cs

-- at index i: the candidate is no event, shows something or was named before, or the price is 2^32 or more
unfoldable pub unfit : (events candidates prices : List ℕ) → ℕ → Bool
unfit es cs ps i =
    nat_le (length es / 2) (slice_index cs i) || (not (slice_index es (2 * slice_index cs i) == 0) || (named (slice_index cs i) (take i cs) || nat_le 4294967296 (slice_index ps i)))

-- the first of n indices from i on that the test is true of
unfoldable pub first_where : (ℕ → Bool) → (i n : ℕ) → Option ℕ
first_where test i zero = None
first_where test i (suc n) = cond (test i) (Some i) (first_where test (suc i) n)

-- 8: more than twelve candidates; a row of prices, or of marks, of another length; a candidate or a price that cannot be
unfoldable pub candidates_refusal : (events candidates prices : List ℕ) (marks : ℕ) → Option Refusal
candidates_refusal es cs ps marks =
    cond (nat_lt 12 (length cs)) (Some (Candidates 12))
    (cond (length ps == length cs)
    (cond (marks == length cs) (option_map Candidates (first_where (unfit es cs ps) 0 (length cs))) (Some (Candidates marks)))
    (Some (Candidates (length ps))))

-- the first rule that applies: the plant's own, then the candidates'
abbrev pub choice_refusal : (states : ℕ) (arrows events candidates prices : List ℕ) (marks : ℕ) → Option Refusal
choice_refusal n xs es cs ps marks = or_else (refusal n xs es) (candidates_refusal es cs ps marks)

-- what is accepted: a plant, and at most twelve different events of it that show nothing, each with a price below 2^32
pub record Fit (n : ℕ) (xs es cs ps : List ℕ) : Type 0 where
  pub valid : Valid n xs es
  pub few : length cs ≤ 12
  pub priced : length ps ≡ length cs
  pub event : (i : ℕ) → i < length cs → slice_index cs i < length es / 2
  pub silent : (i : ℕ) → i < length cs → slice_index es (2 * slice_index cs i) ≡ 0
  pub new : (i : ℕ) → i < length cs → named (slice_index cs i) (take i cs) ≡ false
  pub cheap : (i : ℕ) → i < length cs → slice_index ps i < 4294967296

-- nothing is turned away if and only if it fits
abbrev pub RefusedOrFit : Type 0
RefusedOrFit =
    (n : ℕ) (xs es cs ps : List ℕ) (marks : ℕ)
    → (choice_refusal n xs es cs ps marks ≡ None → Fit n xs es cs ps × (marks ≡ length cs)) × (Fit n xs es cs ps × (marks ≡ length cs) → choice_refusal n xs es cs ps marks ≡ None)
