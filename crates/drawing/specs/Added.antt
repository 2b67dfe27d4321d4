-- What it means to add to a draft. These are definitions and assume nothing.
use Rattle.std.specs.Prelude.{◌≡◌, ℕ, Some, None, Ok, Err, Option, Result}
use Rattle.drawing.specs.declared.reads.ReadError.{ReadError}
use Rattle.drawing.specs.declared.reads.ReadError.TheVariants.{Line, Memory}
use Rattle.drawing.specs.Drafted.{Drafted}

-- the answer for line n, where o is what is then drawn if the line can be read, and the draft became `after`
abbrev pub Outcome : Option Drafted → ℕ → Drafted → Result Unit ReadError → Type 0
Outcome o n after (Ok u) = o ≡ Some after
Outcome o n after (Err (Line m)) = (o ≡ None) × (m ≡ n)
Outcome o n after (Err Memory) = Unit {0}
