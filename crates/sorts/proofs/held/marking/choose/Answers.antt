use Rattle.plant.specs.Refusals.{refusal}
use Rattle.plant.proofs.Valid.{or_else_none}
use Rattle.observer.proofs.Turned.{checked_ok}
use Rattle.sorts.specs.Refusals.{sorts_refusal}
use Rattle.sorts.specs.Sorts.{marked_by}
use Rattle.sorts.proofs.Passing.{held}
use Rattle.sorts.proofs.held.marking.choose.Goals as goal

pub returns : goal.returns
returns c =
    let f = c.args.faults in
    let xs = c.args.numbers.arrows.now in
    let es = c.args.numbers.events.now in
    let none = or_else_none (refusal c.args.numbers.states xs (marked_by f es)) (sorts_refusal f es) (checked_ok _ c.in_ok-check_plant.ensures) in
    held f c.args.numbers.states xs es c.new.result c.new.ensures none.0 none.1
