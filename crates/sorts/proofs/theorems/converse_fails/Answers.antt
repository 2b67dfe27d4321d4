use Rattle.sorts.proofs.Looped.{converse_fails}
use Rattle.sorts.proofs.theorems.converse_fails.Goals as goal

pub returns : goal.returns
returns c = converse_fails
