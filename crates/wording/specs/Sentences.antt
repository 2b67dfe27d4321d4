-- A verdict as a sentence. These are definitions and assume nothing.
use Rattle.std.specs.Prelude.{ℕ, ◌+◌, List, ◌++◌, codes, decimal}
use Rattle.diagnosability.specs.Verdict.{part}
use Rattle.diagnosability.specs.declared.verdict.Lengths.{Lengths}
use Rattle.diagnosability.specs.declared.verdict.Verdict.{Verdict}
use Rattle.diagnosability.specs.declared.verdict.Verdict.TheVariants.{Out, Hidden}
use Rattle.wording.specs.Rows.{row}

-- four rows in turn, each with words before it
abbrev pub in_turn : List (List ℕ) → (w x y z : List ℕ) → (r₁ r₂ r₃ r₄ : List ℕ) → List ℕ
in_turn ws w x y z r₁ r₂ r₃ r₄ = w ++ (row ws r₁ ++ (x ++ (row ws r₂ ++ (y ++ (row ws r₃ ++ (z ++ row ws r₄))))))

-- four rows of these lengths, one behind the other in a room
abbrev pub four_rows : List (List ℕ) → (w x y z : List ℕ) → Lengths → List ℕ → List ℕ
four_rows ws w x y z l room =
    in_turn ws w x y z (part 0 l.bad room) (part l.bad l.good room) (part (l.bad + l.good) l.bad_round room) (part (l.bad + (l.good + l.bad_round)) l.good_round room)

-- by the names of the events and the room where the rows stand
abbrev pub sentence : List (List ℕ) → Verdict → List ℕ → List ℕ
sentence ws (Out k) room = codes "every fault comes out in " ++ (decimal k ++ codes " events")
sentence ws (Hidden l) room = four_rows ws (codes "hidden:") (codes "; and") (codes "; round:") (codes "; and") l room
