-- Numbers of a plant without its faults. These are definitions and assume nothing.
use Rattle.std.specs.Prelude.{◌≡◌, ℕ, ◌*◌, ◌≤◌, List, length, take}
use Rattle.plant.specs.declared.lent.Plant.{Plant as Lent}
use Rattle.plant.specs.Model.{model}
use Rattle.foretelling.specs.Calm.{harmless, numbers, calm}

-- the numbers of the arrows before place i that are no faults: at most three for each
pub record Leaving (p : Lent) (i : ℕ) (kept : List ℕ) : Type 0 where
  pub far : i ≤ length (model p).arrows
  pub short : length kept ≤ 3 * i
  pub are : kept ≡ numbers (harmless (model p) (take i (model p).arrows))

-- q is the plant without its faults
pub record Calms (q p : Lent) : Type 0 where
  pub model : model q ≡ calm (model p)
  pub states : q.states ≡ p.states
