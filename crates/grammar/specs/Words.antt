-- How a line is cut into words. These are definitions and assume nothing.
use Rattle.std.specs.Prelude.{ℕ, Bool, cond, not, ◌||◌, List, [], ◌∷◌, ◌++◌, ◌==◌}

-- a space, a tab, or the return that may stand before the end of a line
abbrev pub blank : ℕ → Bool
blank b = b == 32 || (b == 9 || b == 13)

abbrev pub dark : ℕ → Bool
dark b = not (blank b)

-- the word w has ended, unless it has not begun
abbrev pub ended : List ℕ → List (List ℕ) → List (List ℕ)
ended [] ws = ws
ended (b ∷ w) ws = (b ∷ w) ∷ ws

-- the words of bs, where w has been read of the first
abbrev pub words_from : List ℕ → List ℕ → List (List ℕ)
words_from w [] = ended w []
words_from w (b ∷ bs) = cond (blank b) (ended w (words_from [] bs)) (words_from (w ++ (b ∷ [])) bs)

abbrev pub words : List ℕ → List (List ℕ)
words bs = words_from [] bs
