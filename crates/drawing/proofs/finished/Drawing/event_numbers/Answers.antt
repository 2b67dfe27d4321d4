use Rattle.std.proofs.Common.{◌≡◌, ◌∙◌, sym, ap, map, rules, tests}
use Rattle.std.proofs.lemmas.Result.{IfOk-weaker}
use Rattle.std.proofs.lemmas.List.Folds.{flat_map-map}
use Rattle.std.proofs.lemmas.Iterator.{YieldsList-from_slice, items_from_collect}
use Rattle.std.proofs.lemmas.Iterator.Consumers.{YieldsList-at, YieldsList-from_copied}
use Rattle.std.specs.List.{flat_map}
use Rattle.drawing.specs.Drawn.{drawn, kind}
use Rattle.drawing.specs.Numbers.{two}
use Rattle.drawing.proofs.Rows.{YieldsList-from_array, YieldsList-from_rows}
use Rattle.drawing.proofs.finished.Drawing.event_numbers.Goals as goal

pub returns : goal.returns
returns c =
    let es = c.iter.result.rest.now in
    let kinds : map kind es ≡ (drawn c.args.self.now).kinds = cc in
    IfOk-weaker c.collect.result _ _ (λ v is. is ∙ sym (flat_map-map two kind es) ∙ ap (flat_map two) kinds)
    (items_from_collect _ c.collect.ensures.ran
    (YieldsList-from_rows _ _ _ (λ e. two (kind e)) _ (λ u j b. YieldsList-from_array j u b.0) (YieldsList-at c.flat_map.ensures.source (YieldsList-from_copied (YieldsList-from_slice es cc))) c.flat_map.ensures.closure c.flat_map.ensures.front c.flat_map.ensures.back c.flat_map.ensures.done (λ x u q k. search (rules, tests))))
