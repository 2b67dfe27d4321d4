use Rattle.std.proofs.Common.{◌≡◌, ◌++◌, List, ℕ, map, string_bytes}
use Rattle.std.specs.Fmt.{IsPlainFormatter, HasWritten}
use Rattle.wording.specs.Rows.{spelled}
use Rattle.wording.proofs.rows.RowDisplay.fmt.Given as goal

abbrev pub invariant-loop-event : goal.invariant-loop-event
invariant-loop-event g l =
    (said : List ℕ) × (l.self.events.now ≡ l.event-iterator.iter.rest.now ++ said) × (IsPlainFormatter {W = g.row.W.Denot} l.initial.f → HasWritten {W = g.row.W.Denot} g.W.Write.write_str_gives l.initial.f (spelled (map string_bytes l.self.names.now) said) l.f)
