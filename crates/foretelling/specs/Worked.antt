-- Three worked plants. Statements: they assume nothing.
use Rattle.std.specs.Prelude.{Bool, true, false, [], ◌∷◌}
use Rattle.plant.specs.Plant.{Plant}
use Rattle.plant.specs.Numbers.{arrows_in}
use Rattle.plant.specs.Worked.{untold}
use Rattle.foretelling.specs.Foretelling.{Foretells, Misses}

-- one state and a loop that shows nothing
abbrev pub loop : (fault : Bool) → Plant
loop b = record { arrows = arrows_in (0 ∷ 0 ∷ 0 ∷ []); shows = λ e. 0; fault = λ e. b }

-- where each event is a fault, one is foretold from the beginning on: no event without a fault can follow
-- where none is, there is nothing to foretell
-- where the fault 0 can happen and 1 too, nothing tells them apart before
pub record WorkedForetelling : Type 0 where
  pub bound : Foretells (loop true) 1
  pub calm : Foretells (loop false) 0
  pub missed : Misses untold [] (0 ∷ []) [] (1 ∷ [])
