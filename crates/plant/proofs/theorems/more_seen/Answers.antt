use Rattle.plant.proofs.Finer.{more_seen}
use Rattle.plant.proofs.theorems.more_seen.Goals as goal

pub returns : goal.returns
returns c = more_seen
