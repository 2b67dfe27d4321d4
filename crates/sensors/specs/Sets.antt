-- Sets of candidates as numbers, and the cheapest so far. These are definitions and assume nothing.
use Rattle.std.specs.Prelude.{◌≡◌, ℕ, zero, suc, ◌/◌, ◌%◌, ◌<◌, ◌≤◌, Bool, List, [], ◌∷◌, All}
use Rattle.plant.specs.Checked.{behaviour}
use Rattle.plant.specs.Plant.{Plant, ComesOut}
use Rattle.views.specs.Shown.{Shown}
use Rattle.sensors.specs.declared.selection.Best.{Best}
use Rattle.sensors.specs.declared.selection.Known.{Known}
use Rattle.sensors.specs.declared.selection.Selection.{Selection}
use Rattle.sensors.specs.Candidates.{chosen, cost}

-- the plant that its parts stand for
abbrev pub plant_of : Selection → Plant
plant_of s = behaviour s.numbers

-- the marks of the set of that number: its digits to the base 2, the lowest first
unfoldable pub digits : (count set : ℕ) → List ℕ
digits zero s = []
digits (suc k) s = s % 2 ∷ digits k (s / 2)

-- the set of that number, of candidates or of their prices
abbrev pub chosen_by : (candidates : List ℕ) (set : ℕ) → ℕ → Bool
chosen_by cs s = chosen cs (digits 12 s)

abbrev pub cost_by : (prices : List ℕ) (set : ℕ) → ℕ
cost_by ps s = cost ps (digits 12 s)

-- with the set shown every fault comes out, by any signs; by none does it
abbrev pub Does : Plant → (ℕ → Bool) → Type 0
Does p set = (q : Plant) → Shown p set q → ComesOut q

abbrev pub Never : Plant → (ℕ → Bool) → Type 0
Never p set = (q : Plant) → Shown p set q → ComesOut q → ⊥

-- a set that does, with its sum
pub record Sound (p : Plant) (cs ps : List ℕ) (b : Best) : Type 0 where
  pub does : Does p (chosen_by cs b.set)
  pub costs : b.sum ≡ cost_by ps b.set

-- the set costs no less, or does not do
abbrev pub NoLess : Plant → (cs ps : List ℕ) → Best → ℕ → Type 0
NoLess p cs ps b s = (q : Plant) → Shown p (chosen_by cs s) q → ComesOut q → b.sum ≤ cost_by ps s

-- none of the sets that are kept does
abbrev pub Failing : Plant → (cs sets : List ℕ) → Type 0
Failing p cs sets = All (λ s. Never p (chosen_by cs s)) sets

-- what is known once the set is tried too
pub record Better (p : Plant) (cs ps : List ℕ) (old : Known) (s : ℕ) (now' : Known) : Type 0 where
  pub sound : Sound p cs ps now'.best
  pub below : now'.best.sum ≤ old.best.sum
  pub here : NoLess p cs ps now'.best s
  pub failing : Failing p cs now'.failed.items

-- no set of a number below costs less
pub record BestOf (p : Plant) (cs ps : List ℕ) (n : ℕ) (b : Best) : Type 0 where
  pub sound : Sound p cs ps b
  pub least : (s : ℕ) → s < n → NoLess p cs ps b s
