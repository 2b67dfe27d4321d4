use Rattle.std.proofs.Common.{rules}
use Rattle.std.proofs.lemmas.List.{places}
use Rattle.observer.proofs.marks.write.Goals as goal

pub returns : goal.returns
returns c = search (rules, places)
