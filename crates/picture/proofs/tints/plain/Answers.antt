use Rattle.std.proofs.Common.{◌∙◌, ap, map, rules, tests}
use Rattle.std.proofs.lemmas.Result.{IfOk-weaker}
use Rattle.std.proofs.lemmas.Iterator.{YieldsList-from_slice, YieldsList-from_map, items_from_collect}
use Rattle.std.proofs.lemmas.Iterator.Consumers.{YieldsList-at}
use Rattle.picture.specs.declared.edges.Tint.TheVariants.{Plain}
use Rattle.picture.specs.Pictures.{arrow_of}
use Rattle.picture.proofs.Lines.{arrows_made}
use Rattle.picture.proofs.tints.plain.Goals as goal

pub returns : goal.returns
returns c =
    let ys = c.args.arrows.now in
    IfOk-weaker c.collect.result _ _ (λ v is. ap (map arrow_of) is ∙ arrows_made Plain ys)
    (items_from_collect _ c.collect.ensures.ran
    (YieldsList-from_map _ (λ a. record { arrow = a; tint = Plain }) (YieldsList-at c.map.ensures.source (YieldsList-from_slice ys cc)) c.map.ensures.closure (λ x r q k. search (rules, tests))))
