-- What a whole text draws. These are definitions and assume nothing.
use Rattle.std.specs.Prelude.{◌≡◌, ℕ, ◌+◌, List, [], ◌∷◌, Some, None, Ok, Err, Option, Result}
use Rattle.drawing.specs.declared.finished.Drawing.{Drawing}
use Rattle.drawing.specs.declared.reads.ReadError.{ReadError}
use Rattle.drawing.specs.declared.reads.ReadError.TheVariants.{Line, Memory}
use Rattle.drawing.specs.Drafted.{Drafted, blank_sheet, put}
use Rattle.drawing.specs.Drawn.{Drawn, drawn, finished}
use Rattle.drawing.specs.Lines.{lines}
use Rattle.grammar.specs.Line.{Said, of_line}

abbrev pub put_said : Drafted → Option Said → Option Drafted
put_said d None = None
put_said d (Some s) = put d s

-- what a line adds to d, if it can be read
abbrev pub added : Drafted → List ℕ → Option Drafted
added d l = put_said d (of_line l)

abbrev pub if_read : Option Drafted → ℕ → (Drafted → Result Drafted ℕ) → Result Drafted ℕ
if_read None n more = Err n
if_read (Some d) n more = more d

-- what the lines from number n on add to d, or the number of the first that can't be read
abbrev pub read_from : ℕ → Drafted → List (List ℕ) → Result Drafted ℕ
read_from n d [] = Ok d
read_from n d (l ∷ ls) = if_read (added d l) n (λ e. read_from (n + 1) e ls)

abbrev pub drafting : List ℕ → Result Drafted ℕ
drafting bs = read_from 0 blank_sheet (lines bs)

abbrev pub completed : Result Drafted ℕ → Result Drawn ℕ
completed (Ok d) = Ok (finished d)
completed (Err n) = Err n

-- the plant that a text draws, or the number of the first line that can't be read
abbrev pub reading : List ℕ → Result Drawn ℕ
reading bs = completed (drafting bs)

-- an answer is right, unless memory was wanting
abbrev pub Right : List ℕ → Result Drawing ReadError → Type 0
Right bs (Ok d) = reading bs ≡ Ok (drawn d)
Right bs (Err (Line n)) = reading bs ≡ Err n
Right bs (Err Memory) = Unit {0}
