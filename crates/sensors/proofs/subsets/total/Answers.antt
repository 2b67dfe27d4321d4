use Rattle.std.proofs.Common.{ℕ, ◌<◌, ◌^◌, eqb, rules, ◌∙◌, arith, tests}
use Rattle.std.specs.List.{sum}
use Rattle.std.proofs.lemmas.Iterator.{YieldsList-from_slice, YieldsList-from_zip, YieldsList-from_map}
use Rattle.std.proofs.lemmas.Iterator.Consumers.{YieldsList-at, YieldsList-from_filter, sum_from_yields_List, fits_from_yields_list}
use Rattle.sensors.proofs.Counting.{marked, marked_sum, cost_small}
use Rattle.sensors.proofs.subsets.total.Goals as goal

pub returns : goal.returns
returns c =
    let zipped = YieldsList-from_zip {s = c.zip.result} (YieldsList-from_slice c.args.prices.now (cc)) (YieldsList-from_slice c.args.marks.now (cc)) in
    sum_from_yields_List _ c.sum.result c.sum.ensures.ran
    (YieldsList-from_map _ (λ (p : ℕ × ℕ). p.0)
    (YieldsList-at c.map.ensures.source (YieldsList-from_filter _ (λ (p : ℕ × ℕ). eqb p.1 1) (YieldsList-at c.filter.ensures.source zipped) c.filter.ensures.closure (λ x b q k. search (rules, tests)))) c.map.ensures.closure (λ x r q k. search rules))
    ∙ marked_sum c.args.prices.now c.args.marks.now

pub sum-requires-clause-fits : goal.sum-requires-clause-fits
sum-requires-clause-fits c =
    let zipped = YieldsList-from_zip {s = c.zip.result} (YieldsList-from_slice c.args.prices.now (cc)) (YieldsList-from_slice c.args.marks.now (cc)) in
    let bound : sum (marked c.args.prices.now c.args.marks.now) < 2 ^ 64 =
    omega (arith, marked_sum c.args.prices.now c.args.marks.now, cost_small c.args.prices.now c.args.marks.now 4294967296 c.requires.cheap, c.requires.few) in
    fits_from_yields_list _ (2 ^ 64)
    (YieldsList-from_map _ (λ (p : ℕ × ℕ). p.0)
    (YieldsList-at c.map.ensures.source (YieldsList-from_filter _ (λ (p : ℕ × ℕ). eqb p.1 1) (YieldsList-at c.filter.ensures.source zipped) c.filter.ensures.closure (λ x b q k. search (rules, tests)))) c.map.ensures.closure (λ x r q k. search rules))
    bound
