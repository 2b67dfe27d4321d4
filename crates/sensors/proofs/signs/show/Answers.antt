use Rattle.std.proofs.Common.{length, arith, length-append}
use Rattle.std.proofs.lemmas.Slice.Zip.{zip_turn}
use Rattle.sensors.proofs.Signing.{signed_none, signed_more, signed_kept}
use Rattle.sensors.proofs.signs.show.Goals as goal

pub loop-candidate-init : goal.loop-candidate-init
loop-candidate-init c = signed_none c.args.events.now c.args.candidates.now c.args.marks.now

pub loop-candidate-preserved-then-mark-eq1 : goal.loop-candidate-preserved-then-mark-eq1
loop-candidate-preserved-then-mark-eq1 c =
    let turn = zip_turn c.args.candidates.now c.args.marks.now c.loop-candidate.yielded c.into_iter-candidate-iterator.result c.loop-candidate.candidate-iterator c.next.new.self c.next.result (cc) (cc) c.loop-candidate.yielded_by (c.in-Some.candidate, c.in-Some.mark) c.in-Some.is c.next.ensures.steps in
    signed_more c.args.events.now c.loop-candidate.events c.args.candidates.now c.args.marks.now (length c.loop-candidate.yielded) c.in-Some.candidate.now c.in-Some.mark.now _ turn.0 (turn.2 0) (turn.3 0)
    (length-append c.loop-candidate.yielded _) c.loop-candidate.invariant c.give.new.events (omega (arith, c.requires.size)) (omega (arith, turn.0, turn.2 0, c.requires.there (length c.loop-candidate.yielded))) c.if-mark-eq1.true c.give.ensures

pub loop-candidate-preserved : goal.loop-candidate-preserved
loop-candidate-preserved c =
    let turn = zip_turn c.args.candidates.now c.args.marks.now c.loop-candidate.yielded c.into_iter-candidate-iterator.result c.loop-candidate.candidate-iterator c.next.new.self c.next.result (cc) (cc) c.loop-candidate.yielded_by (c.in-Some.candidate, c.in-Some.mark) c.in-Some.is c.next.ensures.steps in
    signed_kept c.args.events.now c.loop-candidate.events c.args.candidates.now c.args.marks.now (length c.loop-candidate.yielded) c.in-Some.candidate.now c.in-Some.mark.now _ turn.0 (turn.2 0) (turn.3 0)
    (length-append c.loop-candidate.yielded _) c.loop-candidate.invariant c.if-mark-eq1.false
