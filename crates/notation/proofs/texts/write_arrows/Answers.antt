use Rattle.std.proofs.Common.{map, get_or, string_bytes, ◌∙◌}
use Rattle.drawing.specs.Fine.{no_arrow}
use Rattle.notation.specs.Written.{arrow_text}
use Rattle.notation.proofs.Rows.{onward, finished, label_at, arrows_more, arrows_all}
use Rattle.notation.proofs.texts.write_arrows.Goals as goal

pub loop-a-preserved : goal.loop-a-preserved
loop-a-preserved c =
    let ys = c.args.arrows.now in
    let i = c.loop-a.a-index in
    let a = get_or ys i no_arrow in
    let w = c.as_str-name.result.now in
    let ls = map string_bytes c.args.names.now in
    let named = c.as_str-name.ensures.value ∙ label_at c.args.names.now a.event c.index-names-a.result (c.requires i c.loop-a-test.true).1 c.index-names-a.is in
    onward (string_bytes c.loop-a.out) (arrow_text a w) _ _ _ _ c.loop-a.invariant (arrows_more ls ys i no_arrow w c.loop-a-test.true named) c.in_ok-write.ensures.bytes

pub returns : goal.returns
returns c = finished (string_bytes c.loop-a.out) _ _ c.loop-a.invariant (arrows_all (map string_bytes c.args.names.now) c.args.arrows.now c.loop-a.a-index c.loop-a-test.false)
