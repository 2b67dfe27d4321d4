use Rattle.plant.specs.Model.{model}
use Rattle.plant.specs.Plant.{ComesOut}
use Rattle.outcome.proofs.Knotting.{hidden}
use Rattle.outcome.proofs.comes_out.Goals as goal

pub returns-in-Out : goal.returns-in-Out
unfolding ComesOut
returns-in-Out c = (c.in-Out.field-0, c.in-Out.ensures.comes)

pub returns-in_default : goal.returns-in_default
returns-in_default c = hidden (model c.args.plant) c.args.plant.states c.in_default.field-0 c.in_default.field-1 c.in_default.ensures
