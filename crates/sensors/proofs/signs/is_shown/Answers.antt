use Rattle.std.proofs.Common.{◌≡◌, ◌*◌, ◌/◌, ◌≢◌, length, get_or, rules, refl, arith, tests}
use Rattle.std.proofs.lemmas.Iterator.{cases_from_any, YieldsList-from_range}
use Rattle.sensors.proofs.Signing.{shown_by}
use Rattle.sensors.proofs.signs.is_shown.Goals as goal

pub returns : goal.returns
returns c =
    shown_by c.args.events.now c.args.sign (length c.args.events.now / 2) refl c.any.result
    (cases_from_any _ _ _ (λ e. get_or c.args.events.now (2 * e) 0 ≡ c.args.sign) (λ e. get_or c.args.events.now (2 * e) 0 ≢ c.args.sign) c.any.ensures.ran (YieldsList-from_range 0 (length c.args.events.now / 2) (length c.args.events.now / 2) refl (omega arith))
    (λ x q k. search (rules, tests)) (λ x q k. search (rules, tests)))
