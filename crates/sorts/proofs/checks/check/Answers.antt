use Rattle.std.proofs.Common.{ap, ◌∙◌, arith}
use Rattle.std.proofs.lemmas.Grind.{common_steps}
use Rattle.plant.specs.Checked.{checked}
use Rattle.sorts.proofs.Passing.{Lent, room_rules}
use Rattle.sorts.proofs.checks.check.Goals as goal

pub returns-in_err-check : goal.returns-in_err-check
returns-in_err-check c =
    let lent : Lent c.args.faults c.args.numbers c.numbers.result = record { states = c.numbers.ensures.states; arrows = c.numbers.ensures.arrows; events = c.numbers.ensures.events ∙ c.new-marked.ensures } in
    let rules = c.check.ensures ∙ ap checked (room_rules c.args.faults c.args.numbers c.numbers.result lent c.args.room) in
    grind (arith, common_steps)

pub returns : goal.returns
returns c =
    let lent : Lent c.args.faults c.args.numbers c.numbers.result = record { states = c.numbers.ensures.states; arrows = c.numbers.ensures.arrows; events = c.numbers.ensures.events ∙ c.new-marked.ensures } in
    let rules = c.check.ensures ∙ ap checked (room_rules c.args.faults c.args.numbers c.numbers.result lent c.args.room) in
    grind (arith, common_steps)
