-- A text cut at its first newline. Assumes nothing.
use Rattle.std.proofs.Common.{◌≡◌, ℕ, true, List, ◌∷◌, ◌++◌, eqb, refl}
use Rattle.std.specs.List.{list_all}
use Rattle.std.proofs.lemmas.Bool.{not-true}
use Rattle.std.proofs.lemmas.List.Splits.{slice_split_at}
use Rattle.std.proofs.lemmas.List.Sums.{AllPass-from_list_all}
use Rattle.drawing.specs.Lines.{inside, lines}

pub lines_cut : (xs ys : List ℕ) → list_all inside xs ≡ true → lines (xs ++ (10 ∷ ys)) ≡ xs ∷ lines ys
lines_cut xs ys h = slice_split_at (λ b. eqb b 10) xs 10 ys (λ k d lt. not-true _ (AllPass-from_list_all inside xs h k d lt)) refl
