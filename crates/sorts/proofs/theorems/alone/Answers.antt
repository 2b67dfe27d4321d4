use Rattle.sorts.proofs.Altogether.{alone}
use Rattle.sorts.proofs.theorems.alone.Goals as goal

pub returns : goal.returns
returns c = alone
