use Rattle.std.proofs.Common.{◌≡◌, string_bytes, rules, ap, ◌∙◌}
use Rattle.drawing.specs.Drawn.{drawn}
use Rattle.drawing.specs.Reads.{reading}
use Rattle.notation.specs.Written.{written}
use Rattle.notation.proofs.Lent.{lent_arrows}
use Rattle.notation.proofs.Trip.{round_trip}
use Rattle.notation.proofs.texts.write.Goals as goal

pub write_arrows-requires : goal.write_arrows-requires
write_arrows-requires c = lent_arrows c.args.d.now c.names-2.result.now c.names-2.ensures c.arrows.result.now c.arrows.ensures

pub returns : goal.returns
returns c =
    let text : string_bytes c.write_arrows.new.out ≡ written (drawn c.args.d.now) = search rules in
    record { text = text; back = ap reading text ∙ round_trip c.args.d.now }
