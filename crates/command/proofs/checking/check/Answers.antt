use Rattle.command.proofs.Sizes.{sized}
use Rattle.command.proofs.checking.check.Goals as goal

pub returns : goal.returns
returns c =
    let o = c.in_ok-opened.ensures in
    (o.0, o.1, o.2, sized o.3 c.events.result.now c.events.ensures c.arrows.result.now c.arrows.ensures c.in_ok-format.ensures.ok)
