use Rattle.std.proofs.Common.{arith}
use Rattle.plant.specs.Model.{model}
use Rattle.plant.proofs.Readings.{goes_within, valid}
use Rattle.observer.proofs.Followed.{entry_says}
use Rattle.observer.proofs.entry.go_on.Goals as goal

pub returns : goal.returns
returns c =
    let p = c.args.plant in
    entry_says p.states (model p) (λ a g. goes_within p a.event a.from a.to g) (valid p).some_state c.args.memory.now c.write.new.marks c.args.sign c.next-marks.result c.word.result
    (omega arith) c.next-marks.ensures (rw c.states.ensures.value at c.write.ensures) c.word.ensures.marks
