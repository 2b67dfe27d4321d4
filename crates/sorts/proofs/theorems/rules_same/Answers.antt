use Rattle.sorts.proofs.Rules.{rules_same}
use Rattle.sorts.proofs.theorems.rules_same.Goals as goal

pub returns : goal.returns
returns c = rules_same
