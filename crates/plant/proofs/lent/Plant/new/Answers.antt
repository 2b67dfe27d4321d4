use Rattle.std.proofs.Common.{is_some, ap}
use Rattle.plant.proofs.Valid.{refused_or_valid}
use Rattle.plant.proofs.lent.Plant.new.Goals as goal

pub invariant_of-result : goal.invariant_of-result
invariant_of-result c =
    let v = (refused_or_valid c.args.numbers.states c.args.numbers.arrows.now c.args.numbers.events.now).0 c.requires in
    record { some = v.some_state; few = v.few_states; valid = ap is_some c.requires }
