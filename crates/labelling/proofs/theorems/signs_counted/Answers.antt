use Rattle.labelling.proofs.Counting.{signs-counted}
use Rattle.labelling.proofs.theorems.signs_counted.Goals as goal

pub returns : goal.returns
returns c = signs-counted
