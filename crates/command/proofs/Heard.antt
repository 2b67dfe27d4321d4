-- Lines for the words so far. These are definitions and assume nothing.
use Rattle.std.specs.Prelude.{◌≡◌, ℕ, List, [], ◌++◌}
use Rattle.plant.specs.Plant.{Plant}
use Rattle.plant.specs.Model.{model}
use Rattle.observer.specs.Marks.{Right}
use Rattle.command.specs.declared.listening.Listener.{Listener}
use Rattle.command.specs.Lines.{LinesFor}

-- the listener follows p and is right after the signs so far; and lines for the words to come complete what is there to lines for all words
pub record LinesSoFar (p : Plant) (listener : Listener) (to_come all : List (List ℕ)) (bytes : List ℕ) : Type 0 where
  pub plant : model listener.follower.plant ≡ p
  pub signs : List ℕ
  pub right : Right p signs listener.follower.memory
  pub whole : (rest : List ℕ) → LinesFor p listener.place signs to_come rest → LinesFor p 0 [] all (bytes ++ rest)
