use Rattle.std.proofs.Common.{◌≤◌, arith}
use Rattle.plant.specs.Model.{model}
use Rattle.observer.proofs.Followed.{begun_leads, next_leads}
use Rattle.observer.proofs.entry.next.Goals as goal

pub returns-then-sign-eq0 : goal.returns-then-sign-eq0
returns-then-sign-eq0 c = rw c.if-sign-eq0.true (begun_leads c.args.plant.states (model c.args.plant) c.args.marks.now c.begin.result c.begin.ensures)

pub returns : goal.returns
returns c =
    let some : 1 ≤ c.args.sign = omega arith in
    next_leads c.args.plant.states (model c.args.plant) c.args.marks.now c.args.sign c.read.result c.closure.result c.after.result some
    (rw c.states.ensures.value at c.read.ensures) c.closure.ensures c.after.ensures.marks
