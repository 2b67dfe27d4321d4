use Rattle.std.proofs.Common.{◌++◌, string_bytes, sym, ap, ◌∙◌}
use Rattle.std.specs.List.{flat_map}
use Rattle.std.proofs.lemmas.Iterator.{YieldsList-from_slice, YieldsList-from_zip}
use Rattle.std.proofs.lemmas.Iterator.Consumers.{YieldsList-at, YieldsList-end}
use Rattle.std.proofs.lemmas.List.Folds.{flat_map-map}
use Rattle.drawing.specs.Drawn.{kind}
use Rattle.notation.specs.Written.{event_lines}
use Rattle.notation.proofs.Rows.{one_more, paired}
use Rattle.notation.proofs.texts.write_events.Goals as goal

pub loop-name-preserved : goal.loop-name-preserved
loop-name-preserved c =
    one_more (λ p. event_lines (string_bytes p.0.now) (kind p.1.now)) (string_bytes c.args.out.now) (string_bytes c.loop-name.out) (string_bytes c.write.new.self) c.loop-name.yielded (c.in-Some.name, c.in-Some.event) c.loop-name.invariant
    (c.in_ok-write.ensures.bytes ∙ (λ j. string_bytes c.loop-name.out ++ event_lines (c.as_str-name.ensures.value j) (record { sign = c.shown-sign.ensures j; fault = sym c.if-event.false j })))

pub returns : goal.returns
returns c =
    let ns = c.args.names.now in
    let es = c.args.events.now in
    let all = YieldsList-end (YieldsList-at c.into_iter-name-iterator.ensures.into_iter_gives (YieldsList-from_zip (YieldsList-at c.zip-name-items.ensures.first (YieldsList-from_slice ns c.iter.ensures.rest)) (YieldsList-from_slice es c.zip-name-items.ensures.second.0))) c.loop-name.yielded c.loop-name.name-iterator c.loop-name.yielded_by c.next.result c.next.new.self c.in-None.is c.next.ensures.steps in
    c.loop-name.invariant ∙ ap (λ l. string_bytes c.args.out.now ++ l) (sym (flat_map-map (λ p. event_lines (string_bytes p.0) (kind p.1)) (λ p. (p.0.now, p.1.now)) c.loop-name.yielded) ∙ ap (flat_map (λ p. event_lines (string_bytes p.0) (kind p.1))) all.0 ∙ paired ns es)
