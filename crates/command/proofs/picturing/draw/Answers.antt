use Rattle.std.proofs.Common.{◌∙◌, ap, map, vec_items, string_bytes}
use Rattle.drawing.specs.Drawn.{kind}
use Rattle.command.proofs.Pictured.{pictured}
use Rattle.command.proofs.Verdicts.{judged}
use Rattle.command.proofs.picturing.draw.Goals as goal

pub returns : goal.returns
returns c =
    let o = c.in_ok-opened.ensures in
    let s = c.sentence-sentence.ensures in (
      o.0,
      o.1,
      o.2,
      pictured o.3 (string_bytes c.in_ok-title.title) c.as_str.result.now (vec_items c.in_ok-edges.edges) c.as_slice.result.now (map string_bytes c.names-2.result.now) (map kind c.events.result.now)
          (judged o.3 c.in_ok-judgement.ensures _ _ _ (ap (map string_bytes) s.names ∙ c.names.ensures) s.verdict s.room c.in_ok-title.ensures.ok)
          c.in_ok-edges.ensures c.names-2.ensures c.events.ensures c.as_str.ensures.value c.as_slice.ensures.value c.in_ok-format.ensures.ok,
    )
