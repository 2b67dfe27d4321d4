-- What a room holds after its part from place a on was lent to a writer that left ys there. Assumes nothing.
use Rattle.std.proofs.Common.{◌≡◌, ℕ, ◌+◌, ◌-◌, ◌≤◌, List, ◌++◌, length, take, drop, sym, ap, ◌∙◌, append-nil, arith, length-append, length-drop}
use borrow.Rule.Slice.PartMut.{put_mid}
use Rattle.std.proofs.lemmas.List.{take-take, take_at, drop_at, drop-drop, take_rest, drop_all, length-take-le, drop-take}
use Rattle.diagnosability.specs.Verdict.{part}

module _ (a : ℕ) (xs ys : List ℕ) (in' : a ≤ length xs) (same : length ys ≡ length (take (length xs - a) (drop a xs))) where
  pub lent_is : put_mid a (length xs - a) xs ys ≡ take a xs ++ ys
  lent_is =
      ap (λ (zs : List ℕ). take a xs ++ (ys ++ zs)) (drop_all (length xs - a) (drop a xs) (omega (arith, length-drop a xs)))
      ∙ ap (λ (zs : List ℕ). take a xs ++ zs) (append-nil ys)

  front_size : length (take a xs) ≡ a
  front_size = length-take-le a xs in'

  back_size : length ys ≡ length xs - a
  back_size = same ∙ ap length (take_rest xs a) ∙ length-drop a xs

  pub lent_size : length (put_mid a (length xs - a) xs ys) ≡ length xs
  lent_size = ap length lent_is ∙ length-append (take a xs) ys ∙ omega (arith, front_size, back_size)

  pub lent_back : drop a (put_mid a (length xs - a) xs ys) ≡ ys
  lent_back = ap (drop a) lent_is ∙ drop_at (take a xs) ys a front_size

  pub lent_front : take a (put_mid a (length xs - a) xs ys) ≡ take a xs
  lent_front = ap (take a) lent_is ∙ take_at (take a xs) ys a front_size

  -- a part of the front, and a part of what was lent
  pub part_front : (from many : ℕ) → from + many ≤ a → part from many (put_mid a (length xs - a) xs ys) ≡ part from many xs
  part_front from many h =
      let zs : List ℕ = put_mid a (length xs - a) xs ys in
      sym (drop-take from many zs) ∙ ap (drop from) (sym (take-take (from + many) a zs h) ∙ ap (take (from + many)) lent_front ∙ take-take (from + many) a xs h) ∙ drop-take from many xs

  pub part_back : (from many : ℕ) → part (a + from) many (put_mid a (length xs - a) xs ys) ≡ part from many ys
  part_back from many =
      ap (take many) (sym (drop-drop from a (put_mid a (length xs - a) xs ys)) ∙ ap (drop from) lent_back)

  -- what lies past the n places that the writer used
  pub lent_rest : (room : List ℕ) (n : ℕ) → drop a xs ≡ drop a room → drop n ys ≡ drop n (take (length xs - a) (drop a xs))
      → drop (a + n) (put_mid a (length xs - a) xs ys) ≡ drop (a + n) room
  lent_rest room n old new =
      sym (drop-drop n a (put_mid a (length xs - a) xs ys)) ∙ ap (drop n) lent_back ∙ new ∙ ap (drop n) (take_rest xs a ∙ old) ∙ drop-drop n a room
