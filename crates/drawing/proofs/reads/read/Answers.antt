use Rattle.std.proofs.Common.{rules, tests, Err, ◌≡◌, length, eqb, sym, ap, ◌∙◌}
use Rattle.std.proofs.lemmas.List.{length_push}
use Rattle.std.proofs.lemmas.Iterator.Consumers.{YieldsList-at, YieldsList-from_enumerate}
use Rattle.std.proofs.lemmas.Iterator.Splits.{YieldsList-from_slice_split}
use Rattle.drawing.specs.Drafted.{drafted}
use Rattle.drawing.specs.Lines.{lines}
use Rattle.drawing.specs.Reads.{completed}
use Rattle.drawing.proofs.Fines.{draft_fine}
use Rattle.drawing.proofs.Reading.{stands, all_read, one_more, wrong}
use Rattle.drawing.proofs.reads.read.Goals as goal

pub returns-in_err-add : goal.returns-in_err-add
returns-in_err-add c =
    let text = c.args.text.now in
    let at = stands (lines text) c.loop-number.yielded c.loop-number.number-iterator c.loop-number.yielded_by c.next.result c.next.new.self c.next.ensures.steps c.in-Some.number c.in-Some.line c.in-Some.is (YieldsList-at c.into_iter-number-iterator.ensures.into_iter_gives
    (YieldsList-from_enumerate
    (YieldsList-at c.enumerate-number-items.ensures.source (YieldsList-from_slice_split _ (λ b. eqb b 10) text c.split.ensures.rest c.split.ensures.done c.split.ensures.closure (λ x b q k. search (rules, tests, Err))))
    c.enumerate-number-items.ensures.count)) in
    let same : c.from_residual.result ≡ Err c.in_err-add.field-0.0 = search rules in
    rw same (wrong text (length c.loop-number.yielded) c.in-Some.number c.in-Some.line.now at (drafted c.loop-number.draft) c.loop-number.invariant (drafted c.add.new.self) c.in_err-add.field-0.0 c.in_err-add.ensures)

pub loop-number-preserved : goal.loop-number-preserved
loop-number-preserved c =
    let text = c.args.text.now in
    let at = stands (lines text) c.loop-number.yielded c.loop-number.number-iterator c.loop-number.yielded_by c.next.result c.next.new.self c.next.ensures.steps c.in-Some.number c.in-Some.line c.in-Some.is (YieldsList-at c.into_iter-number-iterator.ensures.into_iter_gives
    (YieldsList-from_enumerate
    (YieldsList-at c.enumerate-number-items.ensures.source (YieldsList-from_slice_split _ (λ b. eqb b 10) text c.split.ensures.rest c.split.ensures.done c.split.ensures.closure (λ x b q k. search (rules, tests, Err))))
    c.enumerate-number-items.ensures.count)) in
    rw length_push (one_more text (length c.loop-number.yielded) c.in-Some.number c.in-Some.line.now at (drafted c.loop-number.draft) c.loop-number.invariant (drafted c.add.new.self) c.in_ok-add.ensures)

pub invariant_of-result : goal.invariant_of-result
invariant_of-result c =
    let text = c.args.text.now in
    let all = all_read (lines text) c.loop-number.yielded c.loop-number.number-iterator c.loop-number.yielded_by c.next.result c.next.new.self c.next.ensures.steps (drafted c.loop-number.draft) c.in-None.is (YieldsList-at c.into_iter-number-iterator.ensures.into_iter_gives
    (YieldsList-from_enumerate
    (YieldsList-at c.enumerate-number-items.ensures.source (YieldsList-from_slice_split _ (λ b. eqb b 10) text c.split.ensures.rest c.split.ensures.done c.split.ensures.closure (λ x b q k. search (rules, tests, Err))))
    c.enumerate-number-items.ensures.count)) in
    let fine = draft_fine text (drafted c.loop-number.draft) (sym c.loop-number.invariant ∙ all) in
    record { spelled = fine.spelled; apart = fine.apart; few = fine.few; signs = fine.signs; ways = fine.arrows }

pub returns : goal.returns
returns c =
    let text = c.args.text.now in
    let all = all_read (lines text) c.loop-number.yielded c.loop-number.number-iterator c.loop-number.yielded_by c.next.result c.next.new.self c.next.ensures.steps (drafted c.loop-number.draft) c.in-None.is (YieldsList-at c.into_iter-number-iterator.ensures.into_iter_gives
    (YieldsList-from_enumerate
    (YieldsList-at c.enumerate-number-items.ensures.source (YieldsList-from_slice_split _ (λ b. eqb b 10) text c.split.ensures.rest c.split.ensures.done c.split.ensures.closure (λ x b q k. search (rules, tests, Err))))
    c.enumerate-number-items.ensures.count)) in
    ap completed (sym c.loop-number.invariant ∙ all)
