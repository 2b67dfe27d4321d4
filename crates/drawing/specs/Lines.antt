-- How a text is cut into lines. These are definitions and assume nothing.
use Rattle.std.specs.Prelude.{ℕ, Bool, not, List, ◌==◌}
use Rattle.std.specs.List.{slice_split}

-- a byte that is no newline
abbrev pub inside : ℕ → Bool
inside b = not (b == 10)

abbrev pub lines : List ℕ → List (List ℕ)
lines bs = slice_split (λ b. b == 10) bs
