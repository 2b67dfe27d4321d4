use Rattle.std.proofs.Common.{rules, tests}
use Rattle.std.proofs.lemmas.Iterator.{first_from_Range}
use Rattle.sensors.specs.Signs.{InUse}
use Rattle.sensors.proofs.Signing.{unused_by}
use Rattle.sensors.proofs.signs.unused.Goals as goal

pub returns : goal.returns
returns c =
    unused_by c.args.events.now c.find.result
    (first_from_Range _ _ _ c.find.result (λ o. InUse c.args.events.now o → ⊥) (InUse c.args.events.now) c.find.ensures.ran (λ x q k. search (rules, tests)) (λ x q k. search (rules, tests)))
