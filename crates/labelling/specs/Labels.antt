-- Labellings of a plant, what they do, and how many signs they have. These are definitions and assume nothing.
use Rattle.std.specs.Prelude.{◌≡◌, ℕ, ◌<◌, ◌≤◌, Bool, true, false, cond, ◌||◌, List, [], ◌∷◌, length, ◌==◌, slice_index}
use Rattle.plant.specs.Plant.{Plant, ComesOut}
use Rattle.plant.specs.Theorems.{with_shows}

-- a labelling of a plant of m events: a number for each, 0 being nothing, and faults 0; the numbers are any
pub record Labels (p : Plant) (m : ℕ) (ls : List ℕ) : Type 0 where
  pub long : length ls ≡ m
  pub faults : (e : ℕ) → p.fault e ≡ true → slice_index ls e ≡ 0

-- the plant so labelled: each event shows its number, whatever it showed before
abbrev pub labelled : Plant → List ℕ → Plant
labelled p ls = with_shows p (λ e. slice_index ls e)

-- it does if with it every fault comes out
abbrev pub Does : Plant → List ℕ → Type 0
Does p ls = ComesOut (labelled p ls)

-- whether the number is one of these
unfoldable pub named : ℕ → List ℕ → Bool
named l [] = false
named l (x ∷ xs) = x == l || named l xs

-- the different numbers other than 0 of a row, the latest met first, behind those that were met before
unfoldable pub different : (met row : List ℕ) → List ℕ
different met [] = met
different met (l ∷ ls) = cond (l == 0 || named l met) (different met ls) (different (l ∷ met) ls)

-- how many signs a labelling has
abbrev pub signs : List ℕ → ℕ
signs ls = length (different [] ls)

-- the number stands in the row
abbrev pub InRow : (row : List ℕ) (l : ℕ) → Type 0
InRow row l = (e : ℕ) × (e < length row) × (slice_index row e ≡ l)

-- as many numbers as the row has signs: each stands in the row and is not 0, no two are the same, and none is left out
pub record ItsSigns (row numbers : List ℕ) : Type 0 where
  pub many : length numbers ≡ signs row
  pub some : (i : ℕ) → i < length numbers → 1 ≤ slice_index numbers i
  pub there : (i : ℕ) → i < length numbers → InRow row (slice_index numbers i)
  pub once : (i j : ℕ) → i < length numbers → j < length numbers → slice_index numbers i ≡ slice_index numbers j → i ≡ j
  pub all : (l : ℕ) → 1 ≤ l → InRow row l → InRow numbers l

-- how many signs a row has is how many different numbers other than 0
abbrev pub SignsCounted : Type 0
SignsCounted = (row : List ℕ) → (numbers : List ℕ) × ItsSigns row numbers

-- a labelling that does, of k signs, such that no labelling that does has fewer
pub record FewestSigns (p : Plant) (m : ℕ) (ls : List ℕ) (k : ℕ) : Type 0 where
  pub labels : Labels p m ls
  pub counts : k ≡ signs ls
  pub does : Does p ls
  pub least : (other : List ℕ) → Labels p m other → Does p other → k ≤ signs other

-- no labelling does
abbrev pub NoLabelling : Plant → (m : ℕ) → Type 0
NoLabelling p m = (ls : List ℕ) → Labels p m ls → Does p ls → ⊥
