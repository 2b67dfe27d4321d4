use Rattle.std.proofs.Common.{◌≡◌, ◌++◌, string_bytes}
use Rattle.std.specs.List.{flat_map}
use Rattle.drawing.specs.Drawn.{kind}
use Rattle.notation.specs.Written.{event_lines}
use Rattle.notation.proofs.texts.write_events.Given as goal

abbrev pub invariant-loop-name : goal.invariant-loop-name
invariant-loop-name l =
    string_bytes l.out ≡ string_bytes l.initial.out ++ flat_map (λ p. event_lines (string_bytes p.0.now) (kind p.1.now)) l.yielded
