-- What one sort has to do with faults altogether: statements, each the promise of a function. They assume nothing.
use Rattle.std.specs.Prelude.{◌≡◌, ℕ, ◌≤◌, true, cond, ◌||◌, List, [], ◌∷◌, ◌==◌}
use Rattle.plant.specs.declared.parts.Arrow.{Arrow}
use Rattle.plant.specs.Plant.{Plant, ComesOutIn, Hides}
use Rattle.plant.specs.Refusals.{refusal}
use Rattle.sorts.specs.declared.kinds.Faults.{Faults}
use Rattle.sorts.specs.declared.kinds.Faults.TheVariants.{Sort, Any}
use Rattle.sorts.specs.Sorts.{marked_by, occurs, plant_of, sort_of}
use Rattle.plant.specs.Numbers.{arrows_in}

-- the arrows by events of sort k or of none
unfoldable pub arrows_of : (sort : ℕ) (events : List ℕ) → List Arrow → List Arrow
arrows_of k es [] = []
arrows_of k es (a ∷ ways) = cond (sort_of es a.event == 0 || sort_of es a.event == k) (a ∷ arrows_of k es ways) (arrows_of k es ways)

-- a plant with other arrows
abbrev pub with_arrows : Plant → List Arrow → Plant
with_arrows p ways = record { arrows = ways; shows = p.shows; fault = p.fault }

-- what comes out in n events as sort k does so as a fault at all, where the arrows of other sorts are left out
abbrev pub Alone : Type 0
Alone =
    (k : ℕ) (xs es : List ℕ) (n : ℕ) → 1 ≤ k → ComesOutIn (plant_of (Sort k) xs es) n →
    ComesOutIn (with_arrows (plant_of Any xs es) (arrows_of k es (plant_of Any xs es).arrows)) n

-- where there is no other sort, the plant at sort k is the plant of all faults
abbrev pub OnlySort : Type 0
OnlySort = (k : ℕ) (xs es : List ℕ) → 1 ≤ k → ((j : ℕ) → 1 ≤ j → occurs j es ≡ true → j ≡ k) → plant_of (Sort k) xs es ≡ plant_of Any xs es

-- if every sort that occurs comes out in a number of events that is at most n, faults altogether come out in n
abbrev pub Greatest : Type 0
Greatest =
    (xs es : List ℕ) (out : ℕ → ℕ) (n : ℕ) → ((k : ℕ) → 1 ≤ k → occurs k es ≡ true → ComesOutIn (plant_of (Sort k) xs es) (out k) × (out k ≤ n)) →
    ComesOutIn (plant_of Any xs es) n

-- the plant's own rules do not speak of sorts: they refuse the same whichever faults count, and just what they refuse where faults have no sorts
pub record SameRules (f g : Faults) (n : ℕ) (xs es : List ℕ) : Type 0 where
  pub either_way : refusal n xs (marked_by f es) ≡ refusal n xs (marked_by g es)
  pub as_before : ((e : ℕ) → sort_of es e ≤ 1) → refusal n xs (marked_by f es) ≡ refusal n xs es

abbrev pub RulesSame : Type 0
RulesSame = (f g : Faults) (n : ℕ) (xs es : List ℕ) → SameRules f g n xs es

-- one state with two loops, by faults of sorts 1 and 2 that both show 1
abbrev pub two_loops : List ℕ
two_loops = 0 ∷ 0 ∷ 0 ∷ 0 ∷ 1 ∷ 0 ∷ []

abbrev pub two_sorts : List ℕ
two_sorts = 1 ∷ 1 ∷ 1 ∷ 2 ∷ []

-- altogether they come out in 0 events, and each hides behind the other
pub record ConverseFails : Type 0 where
  pub together : ComesOutIn (plant_of Any two_loops two_sorts) 0
  pub first : Hides (plant_of (Sort 1) two_loops two_sorts) (0 ∷ []) (1 ∷ []) (0 ∷ []) (1 ∷ []) 0 0
  pub second : Hides (plant_of (Sort 2) two_loops two_sorts) (1 ∷ []) (0 ∷ []) (1 ∷ []) (0 ∷ []) 0 0

-- three loops, by an event that is no fault, a fault of sort 1 and one of sort 2
abbrev pub three_loops : List ℕ
three_loops = 0 ∷ 0 ∷ 0 ∷ 0 ∷ 1 ∷ 0 ∷ 0 ∷ 2 ∷ 0 ∷ []

abbrev pub three_sorts : List ℕ
three_sorts = 1 ∷ 0 ∷ 1 ∷ 1 ∷ 1 ∷ 2 ∷ []

-- at sort 1 the first two are left, at sort 2 the first and the last
pub record WorkedArrows : Type 0 where
  pub first : arrows_of 1 three_sorts (arrows_in three_loops) ≡ arrows_in (0 ∷ 0 ∷ 0 ∷ 0 ∷ 1 ∷ 0 ∷ [])
  pub second : arrows_of 2 three_sorts (arrows_in three_loops) ≡ arrows_in (0 ∷ 0 ∷ 0 ∷ 0 ∷ 2 ∷ 0 ∷ [])
