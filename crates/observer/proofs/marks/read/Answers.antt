use Rattle.observer.proofs.Lent.{read_exact}
use Rattle.observer.proofs.marks.read.Goals as goal

pub returns : goal.returns
returns c = read_exact c.args.states c.args.marks.now c.requires.sized _ c.read_set.ensures c.read_set-2.ensures
