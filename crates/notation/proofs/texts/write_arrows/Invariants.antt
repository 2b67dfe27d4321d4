use Rattle.std.proofs.Common.{◌≡◌, ◌++◌, map, drop, string_bytes}
use Rattle.std.specs.List.{flat_map}
use Rattle.notation.specs.Written.{arrow_line}
use Rattle.notation.proofs.texts.write_arrows.Given as goal

abbrev pub invariant-loop-a : goal.invariant-loop-a
invariant-loop-a l =
    string_bytes l.out ++ flat_map (arrow_line (map string_bytes l.names)) (drop l.a-index l.arrows)
    ≡ string_bytes l.initial.out ++ flat_map (arrow_line (map string_bytes l.names)) l.arrows
