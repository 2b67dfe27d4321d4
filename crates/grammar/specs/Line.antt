-- What a line says. These are definitions and assume nothing.
use Rattle.std.specs.Prelude.{ℕ, ◌+◌, ◌-◌, ◌*◌, Bool, cond, not, ◌&&◌, ◌||◌, List, [], ◌∷◌, length, Some, None, codes, Option, ◌==◌, nat_le, nat_lt, slice_index}
use Rattle.std.proofs.Math.Utf8.{scalars, encodes}
use Rattle.std.specs.List.{before_first, list_all}
use Rattle.std.specs.Option.{option_map}
use Rattle.std.specs.Char.{is_ascii_digit, is_ascii_alphabetic}
use Rattle.std.specs.Str.{all_ascii_digits, bytes_eq, chars}
use Rattle.grammar.specs.declared.statement.Statement.{Statement}
use Rattle.grammar.specs.declared.statement.Statement.TheVariants.{Nothing, Arrow, Fault, Shows}
use Rattle.grammar.specs.Words.{words}

-- a statement, with its words as lists of bytes
pub data Said : Type 0 where
  nothing : Said
  arrow : ℕ → List ℕ → ℕ → Said
  fault : List ℕ → Said
  shows : List ℕ → ℕ → Said

abbrev pub said : Statement → Said
said Nothing = nothing
said (Arrow start label end) = arrow start label.now end
said (Fault label) = fault label.now
said (Shows label value) = shows label.now value

-- whether the bytes are UTF-8: they have characters, and are how these are written
unfoldable pub is_text : List ℕ → Bool
is_text bs = scalars (chars bs) && bytes_eq (encodes (chars bs)) bs

-- the part of a line before a comment, which '#' begins
abbrev pub before_comment : List ℕ → List ℕ
before_comment bs = before_first (λ b. b == 35) bs

-- a letter, a digit, '-' or '_'
abbrev pub name_byte : ℕ → Bool
name_byte b = is_ascii_alphabetic b || (is_ascii_digit b || (b == 45 || b == 95))

-- a name begins with a letter, has at most 32 bytes, and is not `nothing`
abbrev pub is_name : List ℕ → Bool
is_name w = is_ascii_alphabetic (slice_index w 0) && (list_all name_byte w && (nat_le (length w) 32 && not (bytes_eq w (codes "nothing"))))

-- the number that digits write, after the number so far
abbrev pub read_on : ℕ → List ℕ → ℕ
read_on n [] = n
read_on n (c ∷ cs) = read_on (10 * n + (c - 48)) cs

-- a number is 1 to 18 digits
abbrev pub numeral : List ℕ → Option ℕ
numeral w = cond (all_ascii_digits w && (nat_lt 0 (length w) && nat_le (length w) 18)) (Some (read_on 0 w)) None

abbrev pub from_state : Option ℕ → List ℕ → List ℕ → Option Said
from_state None v u = None
from_state (Some m) v u = cond (is_name v) (option_map (arrow m v) (numeral u)) None

-- `NAME fault`
abbrev pub two_words : List ℕ → List ℕ → Option Said
two_words w v = cond (is_name w && bytes_eq v (codes "fault")) (Some (fault w)) None

-- `NAME shows NUMBER`, or `NUMBER NAME NUMBER`
abbrev pub three_words : List ℕ → List ℕ → List ℕ → Option Said
three_words w v u = cond (is_name w) (cond (bytes_eq v (codes "shows")) (option_map (shows w) (numeral u)) None) (from_state (numeral w) v u)

abbrev pub of_words : List (List ℕ) → Option Said
of_words [] = Some nothing
of_words (w ∷ []) = None
of_words (w ∷ v ∷ []) = two_words w v
of_words (w ∷ v ∷ u ∷ []) = three_words w v u
of_words (w ∷ v ∷ u ∷ t ∷ ws) = None

abbrev pub of_text : List ℕ → Option Said
of_text bs = of_words (words (before_comment bs))

-- what a line says, or nothing if it is none of these; its bytes are UTF-8, in the comment too
abbrev pub of_line : List ℕ → Option Said
of_line bs = cond (is_text bs) (of_text bs) None
