-- Numbers written over the front of zeros. Assumes nothing.
use Rattle.std.proofs.Common.{◌≡◌, ℕ, ◌+◌, ◌-◌, ◌≤◌, List, ◌++◌, length, get_or, drop, sym, refl, ◌∙◌, ⊎_elim, arith, length-append, length-drop}
use Rattle.std.proofs.lemmas.List.{get_or_append_left, get_or-append_right, get_or-drop, get_or_past}
use Rattle.std.proofs.lemmas.Bool.{cases_lt}
use Rattle.sensors.specs.Signs.{Padded}

module _ (xs zs : List ℕ) (fits : length xs ≤ length zs) (zero' : (k : ℕ) → get_or zs k 0 ≡ 0) where
  at : (k : ℕ) → get_or (xs ++ drop (length xs) zs) k 0 ≡ get_or xs k 0
  at k =
      ⊎_elim (λ lt. get_or_append_left xs (drop (length xs) zs) 0 k lt)
      (λ le. get_or-append_right xs (drop (length xs) zs) (length xs) k 0 refl le ∙ get_or-drop (length xs) zs (k - length xs) 0 ∙ zero' (length xs + (k - length xs)) ∙ sym (get_or_past xs k 0 le))
      (cases_lt k (length xs))

  pub padded : (ys : List ℕ) → ys ≡ xs → Padded xs (ys ++ drop (length xs) zs) (length zs)
  padded ys same = rw same (record {
    size_is = length-append xs (drop (length xs) zs) ∙ omega (arith, length-drop (length xs) zs);
    same = at;
  })
