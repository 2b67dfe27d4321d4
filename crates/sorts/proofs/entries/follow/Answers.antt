use Rattle.std.proofs.Common.{◌∙◌}
use Rattle.observer.proofs.Followed.{followed_right}
use Rattle.observer.proofs.Turned.{checked_ok}
use Rattle.sorts.specs.declared.kinds.Faults.TheVariants.{Sort}
use Rattle.sorts.proofs.Passing.{Lent, followed}
use Rattle.sorts.proofs.entries.follow.Goals as goal

pub returns-in_err-check_memory-clause-known : goal.returns-in_err-check_memory-clause-known
returns-in_err-check_memory-clause-known c = followed_right

pub returns-clause-says : goal.returns-clause-says
returns-clause-says c =
    let lent : Lent (Sort c.args.sort) c.args.numbers c.numbers.result = record { states = c.numbers.ensures.states; arrows = c.numbers.ensures.arrows; events = c.numbers.ensures.events ∙ c.new-marked.ensures } in
    followed (Sort c.args.sort) c.args.numbers c.numbers.result lent c.args.memory.now c.args.sign c.follow.result c.follow.new.memory (checked_ok _ c.in_ok-check_memory.ensures) c.follow.ensures.says
