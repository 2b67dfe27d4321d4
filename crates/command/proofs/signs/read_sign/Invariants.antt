use Rattle.std.proofs.Common.{◌≡◌, ◌≤◌, min, drop}
use Rattle.command.specs.Signs.{digits, value_from}
use Rattle.command.proofs.signs.read_sign.Given as goal

-- what is left says the same, as far as it matters
abbrev pub invariant-loop-b : goal.invariant-loop-b
invariant-loop-b l =
    (l.value ≤ 256) × (digits l.word ≡ digits (drop l.b-index l.word))
    × (min (value_from 0 l.word) 256 ≡ min (value_from l.value (drop l.b-index l.word)) 256)
