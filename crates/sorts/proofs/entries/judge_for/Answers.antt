use Rattle.std.proofs.Common.{◌∙◌}
use Rattle.observer.proofs.Turned.{checked_ok}
use Rattle.sorts.proofs.Passing.{Lent, judged}
use Rattle.sorts.proofs.entries.judge_for.Goals as goal

pub returns : goal.returns
returns c =
    let lent : Lent c.args.faults c.args.numbers c.numbers.result = record { states = c.numbers.ensures.states; arrows = c.numbers.ensures.arrows; events = c.numbers.ensures.events ∙ c.new-marked.ensures } in
    judged c.args.faults c.args.numbers c.numbers.result lent c.args.room.now c.judge.new.room c.judge.result (checked_ok _ c.in_ok-check.ensures) c.judge.ensures
