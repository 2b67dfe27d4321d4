use Rattle.sorts.proofs.Altogether.{only_sort}
use Rattle.sorts.proofs.theorems.only_sort.Goals as goal

pub returns : goal.returns
returns c = only_sort
