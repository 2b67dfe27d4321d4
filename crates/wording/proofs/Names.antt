-- The names of a row, one more at the end of time. Assumes nothing.
use Rattle.std.proofs.Common.{◌≡◌, ℕ, List, [], ◌∷◌, ◌++◌, length, codes, slice_index_or, sym, refl, ap, ◌∙◌, append_assoc, arith, false, ◌==◌}
use Rattle.std.proofs.lemmas.Bool.{eqb-false}
use Rattle.std.specs.List.{push}
use Rattle.wording.specs.Rows.{row, spelled}

-- those before it are fewer by one
pub before : (es rest rest₁ said : List ℕ) (e : ℕ) → es ≡ rest ++ said → rest ≡ push rest₁ e → es ≡ rest₁ ++ (e ∷ said)
before es rest rest₁ said e is last = is ∙ ap (λ r. r ++ said) last ∙ append_assoc rest₁ (e ∷ []) said

module _ (ws : List (List ℕ)) where
  pub one_more : (said : List ℕ) (e : ℕ) (w : List ℕ) → w ≡ slice_index_or ws e [] → spelled ws said ++ (codes " " ++ w) ≡ spelled ws (e ∷ said)
  one_more said e w is = ap (λ v. spelled ws said ++ (codes " " ++ v)) is

  some_row : (es : List ℕ) → (length es == 0) ≡ false → spelled ws es ≡ row ws es
  some_row [] some = absurd (eqb-false 0 0 some refl)
  some_row (e ∷ es) some = refl

  -- none is left
  pub all_said : (es rest said : List ℕ) → (length es == 0) ≡ false → es ≡ rest ++ said → length rest ≡ 0 → spelled ws said ≡ row ws es
  all_said es [] said some is none = ap (spelled ws) (sym is) ∙ some_row es some
  all_said es (r ∷ rest) said some is none = absurd (omega arith)
