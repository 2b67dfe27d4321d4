use Rattle.std.proofs.Common.{rules, tests}
use Rattle.std.proofs.lemmas.Iterator.{YieldsList-from_slice, items_from_collect}
use Rattle.std.proofs.lemmas.Iterator.Consumers.{YieldsList-at, YieldsList-from_copied}
use Rattle.drawing.specs.Drafted.{drafted}
use Rattle.drawing.specs.Numbers.{three}
use Rattle.drawing.proofs.Rows.{YieldsList-from_array, YieldsList-from_rows}
use Rattle.drawing.proofs.finished.Drawing.arrow_numbers.Goals as goal

pub returns : goal.returns
returns c =
    let ys = (drafted c.args.self.now.draft).ways in
    items_from_collect _ c.collect.ensures.ran
    (YieldsList-from_rows _ _ _ three _ (λ u j b. YieldsList-from_array j u b.0) (YieldsList-at c.flat_map.ensures.source (YieldsList-from_copied (YieldsList-from_slice ys cc))) c.flat_map.ensures.closure c.flat_map.ensures.front c.flat_map.ensures.back c.flat_map.ensures.done (λ x u q k. search (rules, tests)))
