-- A knot hides a fault, so no fault comes out. Assumes nothing.
use Rattle.std.proofs.Common.{ℕ}
use Rattle.plant.specs.Plant.{Plant, ComesOut}
use Rattle.plant.proofs.Judged.{not_both, walks_hide}
use Rattle.twin.specs.Found.{KnotAt}

pub hidden : (p : Plant) (n s t : ℕ) → KnotAt p n s t → ComesOut p → ⊥
hidden p n s t k out = not_both p _ _ _ _ s t out (walks_hide p (s, t) k.first k.marks k.round k.some)
