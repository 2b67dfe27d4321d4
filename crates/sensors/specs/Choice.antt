-- What a choice says of a plant, its candidates, and the row of marks that was lent. These are definitions and assume nothing.
use Rattle.std.specs.Prelude.{◌≡◌, ℕ, ◌≤◌, List, length, Some, None, Option}
use Rattle.std.specs.List.{AllByRecursion}
use Rattle.plant.specs.Plant.{Plant, ComesOut}
use Rattle.views.specs.Shown.{Shown}
use Rattle.sensors.specs.Candidates.{chosen, cost}

-- the marks choose a cheapest set, which costs the sum: with it shown, by any signs of its own (there are some), every fault comes out; and no set with which it does, by any signs, costs less
pub record CheapestSet (p : Plant) (cs ps marks : List ℕ) (sum : ℕ) : Type 0 where
  pub long : length marks ≡ length cs
  pub ones : AllByRecursion (λ m. m ≤ 1) marks
  pub costs : sum ≡ cost ps marks
  pub some : (q : Plant) × Shown p (chosen cs marks) q
  pub does : (q : Plant) → Shown p (chosen cs marks) q → ComesOut q
  pub least : (other : List ℕ) (q : Plant) → Shown p (chosen cs other) q → ComesOut q → sum ≤ cost ps other

-- with no set shown, by whichever signs, does every fault come out
abbrev pub NoSet : Plant → (candidates : List ℕ) → Type 0
NoSet p cs = (marks : List ℕ) (q : Plant) → Shown p (chosen cs marks) q → ComesOut q → ⊥

-- two cheapest sets cost the same, and where there is one it is not so that no set does
pub record OneChoice (p : Plant) (cs ps : List ℕ) : Type 0 where
  pub one_sum : (marks other : List ℕ) (sum least : ℕ) → CheapestSet p cs ps marks sum → CheapestSet p cs ps other least → sum ≡ least
  pub not_both : (marks : List ℕ) (sum : ℕ) → CheapestSet p cs ps marks sum → NoSet p cs → ⊥

abbrev pub ChoiceOne : Type 0
ChoiceOne = (p : Plant) (cs ps : List ℕ) → OneChoice p cs ps

-- what each choice says
-- some: the marks in the row choose a cheapest set, of this sum
-- none: no set does, and the row is as it was
abbrev pub ChoiceSays : Plant → (candidates prices marks : List ℕ) → Option ℕ → (marks₁ : List ℕ) → Type 0
ChoiceSays p cs ps marks (Some sum) marks₁ = CheapestSet p cs ps marks₁ sum
ChoiceSays p cs ps marks None marks₁ = (marks₁ ≡ marks) × NoSet p cs
