use Rattle.std.proofs.Common.{◌≡◌, ◌<◌, ◌∙◌, length, get_or, take, min, arith}
use Rattle.std.proofs.lemmas.List.{get_or-take, length-set, length-take-le}
use Rattle.sorts.proofs.Numbering.{marked_all, marked_more}
use Rattle.sorts.proofs.held.Marked.new.Goals as goal

pub loop-place-preserved : goal.loop-place-preserved
loop-place-preserved c =
    let i = c.loop-place.place in
    let held = length-take-le c.min.result c.args.events.now (omega arith) in
    let there : i < length c.args.events.now = omega arith in
    let room : i < length c.loop-place.numbers = omega (arith, c.loop-place.invariant.0) in
    let kept : get_or (take c.min.result c.args.events.now) i 0 ≡ get_or c.args.events.now i 0 = get_or-take c.min.result c.args.events.now i 0 (omega arith) in (
      length-set c.loop-place.numbers i c.number_at.result ∙ c.loop-place.invariant.0,
      marked_more c.args.faults c.args.events.now c.loop-place.numbers i c.number_at.result there room c.loop-place.invariant.1 (rw kept at c.number_at.ensures),
    )

pub returns : goal.returns
returns c =
    let held = length-take-le c.min.result c.args.events.now (omega arith) in
    let count = length (take c.min.result c.args.events.now) in
    let end : c.loop-place.place ≡ count = omega arith in
    let is : count ≡ min (length c.args.events.now) 129 = omega arith in
    marked_all c.args.faults c.args.events.now c.loop-place.numbers count is (rw end at c.loop-place.invariant.1)
