use Rattle.std.proofs.Common.{rules, tests, length, ap, ◌∙◌, sym, arith}
use Rattle.std.specs.Option.{unwrap_or}
use Rattle.std.proofs.lemmas.Iterator.Adapters.{option_map_id}
use Rattle.std.proofs.lemmas.Iterator.{YieldsList-from_slice, YieldsList-from_map}
use Rattle.std.proofs.lemmas.Iterator.Consumers.{max_from_yields_List, YieldsList-at}
use Rattle.drawing.specs.Drafted.{drafted}
use Rattle.drawing.proofs.Rows.{later, greatest_is, greatest_short}
use Rattle.drawing.proofs.finished.Drawing.greatest.Goals as goal

pub returns : goal.returns
returns c =
    let d = c.args.self.now in
    let ys = (drafted d.draft).ways in
    let most = max_from_yields_List _ c.max.result c.max.ensures.ran (YieldsList-from_map _ later (YieldsList-at c.map.ensures.source (YieldsList-from_slice ys cc)) c.map.ensures.closure (λ x r q k. search (rules, tests))) in
    let is = c.unwrap_or.ensures ∙ ap (λ o. unwrap_or o 0) (sym (option_map_id _) ∙ most) ∙ greatest_is ys in
    record { is = is; short = omega (arith, is, greatest_short (length (drafted d.draft).labels) ys d.ways) }
