use Rattle.std.proofs.Common.{ℕ, min, ap, ◌∙◌, rules}
use Rattle.plant.specs.Model.{model}
use Rattle.foretelling.specs.Foretelling.{Foretells}
use Rattle.predictability.proofs.Deciding.{told}
use Rattle.predictability.proofs.entry.decide.Goals as goal

pub returns-in_err-pair : goal.returns-in_err-pair
returns-in_err-pair c =
    let p = c.args.calmed.plant in
    let all : Foretells (model p) c.args.ahead = told (model p) c.args.ahead p.states c.min-events.result (c.min-events.ensures ∙ ap (λ (k : ℕ). min c.args.ahead k) c.states.ensures.value) c.in_err-pair.ensures in
    search rules
