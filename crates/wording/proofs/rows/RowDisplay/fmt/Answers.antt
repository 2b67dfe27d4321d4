use Rattle.std.proofs.Common.{◌∷◌, ◌++◌, [], map, string_bytes, true, codes, refl, sym, rules}
use Rattle.std.proofs.Output.{has_written_append, has_written_of_eq, writes_in_calls_nil}
use Rattle.wording.specs.Rows.{spelled}
use Rattle.wording.proofs.Names.{before, one_more, all_said}
use Rattle.wording.proofs.rows.RowDisplay.fmt.Goals as goal

pub loop-event-init : goal.loop-event-init
loop-event-init g c = ([], search rules, λ plain. record { plain = plain; wrote = writes_in_calls_nil g.W.Write.write_str_gives _ })

pub loop-event-preserved : goal.loop-event-preserved
loop-event-preserved g c =
    let said = c.loop-event.invariant.0 in
    let ws = map string_bytes c.args.self.now.names.now in (
      c.in-Some.event.now ∷ said,
      before c.args.self.now.events.now _ _ said _ c.loop-event.invariant.1 c.in-Some.ensures.steps,
      λ plain.
          let p = c.loop-event.invariant.2 plain in
          has_written_of_eq g.W.Write.write_str_gives _ _ _ _ (one_more ws said c.in-Some.event.now c.name_of-name.result.now c.name_of-name.ensures)
          (has_written_append g.W.Write.write_str_gives _ (spelled ws said) _ (codes " " ++ c.name_of-name.result.now) _ p (c.in_ok-write.ensures.writes p.plain (refl {a = true}))),
    )

pub returns-clause-writes : goal.returns-clause-writes
returns-clause-writes g c =
    λ plain ok.
    has_written_of_eq g.W.Write.write_str_gives _ _ _ _
    (all_said (map string_bytes c.args.self.now.names.now) c.args.self.now.events.now c.loop-event.event-iterator.iter.rest.now c.loop-event.invariant.0 (sym (c.if-is_empty.ensures)) c.loop-event.invariant.1 c.in-None.ensures.steps.0)
    (c.loop-event.invariant.2 plain)
