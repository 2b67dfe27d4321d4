use Rattle.sorts.proofs.Altogether.{greatest}
use Rattle.sorts.proofs.theorems.greatest.Goals as goal

pub returns : goal.returns
returns c = greatest
