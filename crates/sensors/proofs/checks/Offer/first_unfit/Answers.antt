use Rattle.std.proofs.Common.{◌≡◌, true, false, length, rules, tests}
use Rattle.std.proofs.lemmas.Iterator.{first_from_Range}
use Rattle.sensors.specs.Candidates.{unfit}
use Rattle.sensors.proofs.Naming.{first_is}
use Rattle.sensors.proofs.checks.Offer.first_unfit.Goals as goal

pub returns : goal.returns
returns c =
    let test = unfit c.args.self.events.now c.args.self.candidates.now c.args.self.prices.now in
    first_is test (length c.args.self.candidates.now) c.find.result
    (first_from_Range _ _ _ c.find.result (λ i. test i ≡ true) (λ i. test i ≡ false) c.find.ensures.ran (λ x q k. search (rules, tests)) (λ x q k. search (rules, tests)))
