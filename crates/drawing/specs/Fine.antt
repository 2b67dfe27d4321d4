-- What holds of whatever a text draws. These are definitions and assume nothing.
use Rattle.std.specs.Prelude.{◌≡◌, ℕ, ◌+◌, ◌^◌, ◌<◌, ◌≤◌, true, List, [], length, Option, slice_index_or}
use Rattle.std.specs.Option.{unwrap_or}
use Rattle.drawing.specs.declared.shape.Arrow.{Arrow}
use Rattle.drawing.specs.declared.shape.Event.{Event}
use Rattle.drawing.specs.Drafted.{Drafted, place, kept, unsaid}
use Rattle.grammar.specs.Line.{is_name}

-- an event that no line says to show something shows nothing
abbrev pub sign_of : Option ℕ → ℕ
sign_of o = unwrap_or o 0

abbrev pub no_arrow : Arrow
no_arrow = record { «from» = 0; event = 0; to = 0 }

-- the names are names
abbrev pub Spelled : List (List ℕ) → Type 0
Spelled ws = (i : ℕ) → i < length ws → is_name (slice_index_or ws i []) ≡ true

-- each is found at its own place
abbrev pub Apart : List (List ℕ) → Type 0
Apart ws = (i : ℕ) → i < length ws → place ws (slice_index_or ws i []) ≡ i

-- 18 digits are enough for a number
abbrev pub ShortSign : Event → Type 0
ShortSign e = sign_of e.sign < 10 ^ 18

abbrev pub ShortSigns : List Event → Type 0
ShortSigns es = (i : ℕ) → i < length es → ShortSign (slice_index_or es i unsaid)

-- an arrow goes by one of n events
abbrev pub GoesBy : ℕ → Arrow → Type 0
GoesBy n a = (a.«from» < 10 ^ 18) × (a.event < n) × (a.to < 10 ^ 18)

abbrev pub GoBy : ℕ → List Arrow → Type 0
GoBy n ys = (i : ℕ) → i < length ys → GoesBy n (slice_index_or ys i no_arrow)

pub record Fine (d : Drafted) : Type 0 where
  pub spelled : Spelled d.labels
  pub apart : Apart d.labels
  pub few : length d.labels ≤ kept + 1
  pub level : length d.labels ≡ length d.kinds
  pub signs : ShortSigns d.kinds
  pub arrows : GoBy (length d.labels) d.ways
