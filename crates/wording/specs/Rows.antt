-- A row of events as words. These are definitions and assume nothing.
use Rattle.std.specs.Prelude.{ℕ, List, [], ◌∷◌, ◌++◌, codes, slice_index_or}

-- the names of a row that has its latest event first, in the order of time, with a space before each
abbrev pub spelled : List (List ℕ) → List ℕ → List ℕ
spelled ws [] = []
spelled ws (e ∷ es) = spelled ws es ++ (codes " " ++ slice_index_or ws e [])

abbrev pub row : List (List ℕ) → List ℕ → List ℕ
row ws [] = codes " nothing"
row ws (e ∷ es) = spelled ws (e ∷ es)
