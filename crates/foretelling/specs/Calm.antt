-- A plant without its faults. These are definitions and assume nothing.
use Rattle.std.specs.Prelude.{ℕ, cond, List, [], ◌∷◌}
use Rattle.plant.specs.declared.parts.Arrow.{Arrow}
use Rattle.plant.specs.Plant.{Plant}

-- the arrows whose events are no faults
unfoldable pub harmless : Plant → List Arrow → List Arrow
harmless p [] = []
harmless p (a ∷ xs) = cond (p.fault a.event) (harmless p xs) (a ∷ harmless p xs)

-- the plant whose runs are the runs without a fault
abbrev pub calm : Plant → Plant
calm p = record { arrows = harmless p p.arrows; shows = p.shows; fault = p.fault }

-- arrows as numbers, three for each
unfoldable pub numbers : List Arrow → List ℕ
numbers [] = []
numbers (a ∷ xs) = a.from ∷ (a.event ∷ (a.to ∷ numbers xs))
