-- Numbers that stop counting at 256. Assumes nothing.
use Rattle.std.proofs.Common.{◌≡◌, ℕ, ◌+◌, ◌-◌, ◌*◌, ◌<◌, ◌≤◌, min, Bool, true, false, ◌&&◌, List, [], ◌∷◌, length, get_or, drop, Ok, Err, sym, refl, ap, ◌∙◌, ⊎_elim, arith}
use Rattle.std.proofs.lemmas.List.{at_drop_more, at_drop_all}
use Rattle.std.proofs.lemmas.Bool.{cases_lt, le-leb, lt-leb}
use Rattle.plant.specs.declared.parts.Refusal.TheVariants.{Memory, Text}
use Rattle.command.specs.Signs.{digit, digits, value_from, in_range, sign_of}

-- digits only make a number larger
value_grows : (n : ℕ) (bs : List ℕ) → n ≤ value_from n bs
unfolding value_from
value_grows n [] = omega arith
value_grows n (b ∷ bs) = omega (arith, value_grows (10 * n + (b - 48)) bs)

-- so it does not matter by how much a number is past 256
pub capped : (n : ℕ) (bs : List ℕ) → min (value_from n bs) 256 ≡ min (value_from (min n 256) bs) 256
capped n bs = ⊎_elim small large (cases_lt n 256)
  where
    small : n < 256 → min (value_from n bs) 256 ≡ min (value_from (min n 256) bs) 256
    small h = let same : min n 256 ≡ n = omega arith in rw same

    large : 256 ≤ n → min (value_from n bs) 256 ≡ min (value_from (min n 256) bs) 256
    large h = let cap : min n 256 ≡ 256 = omega arith in rw cap (let a = value_grows n bs in let b = value_grows 256 bs in omega arith)

module _ (w : List ℕ) (i : ℕ) (h : i < length w) where
  -- one digit more, or what is none
  pub digits_on : digit (get_or w i 0) ≡ true → digits (drop i w) ≡ digits (drop (i + 1) w)
  unfolding digits
  digits_on d = at_drop_more digits w i 0 h ∙ ap (λ (b : Bool). b && digits (drop (i + 1) w)) d

  pub digits_off : digit (get_or w i 0) ≡ false → digits (drop i w) ≡ false
  unfolding digits
  digits_off d = at_drop_more digits w i 0 h ∙ ap (λ (b : Bool). b && digits (drop (i + 1) w)) d

  pub value_on : (n m : ℕ) → m ≡ min (10 * n + (get_or w i 0 - 48)) 256 → min (value_from n (drop i w)) 256 ≡ min (value_from m (drop (i + 1) w)) 256
  unfolding value_from
  value_on n m e =
      ap (λ (v : ℕ). min v 256) (at_drop_more (value_from n) w i 0 h)
      ∙ capped (10 * n + (get_or w i 0 - 48)) (drop (i + 1) w)
      ∙ ap (λ (k : ℕ). min (value_from k (drop (i + 1) w)) 256) (sym e)

-- at the end
pub digits_end : (w : List ℕ) (i : ℕ) → length w ≤ i → digits (drop i w) ≡ true
unfolding digits
digits_end w i h = at_drop_all digits w i h

pub value_end : (w : List ℕ) (i n : ℕ) → length w ≤ i → value_from n (drop i w) ≡ n
unfolding value_from
value_end w i n h = at_drop_all (value_from n) w i h

-- what a word says
pub no_sign : (k : ℕ) (w : List ℕ) → digits w ≡ false → sign_of k w ≡ Err (Text k)
no_sign k [] e = refl
no_sign k (b ∷ bs) e = rw e

number_says : (k : ℕ) (w : List ℕ) → 0 < length w → digits w ≡ true → sign_of k w ≡ in_range k (value_from 0 w)
number_says k [] h e = absurd (omega arith)
number_says k (b ∷ bs) h e = rw e

-- all was read, and v is what it said
module _ (k : ℕ) (w : List ℕ) (i v : ℕ) (some : 0 < length w) (end : length w ≤ i) (same : digits w ≡ digits (drop i w)) (said : min (value_from 0 w) 256 ≡ min (value_from v (drop i w)) 256) where
  reads : sign_of k w ≡ in_range k (value_from 0 w)
  reads = number_says k w some (same ∙ digits_end w i end)

  value_said : min (value_from 0 w) 256 ≡ min v 256
  value_said = said ∙ ap (λ (n : ℕ). min n 256) (value_end w i v end)

  pub says_large : 255 < v → sign_of k w ≡ Err (Memory k)
  says_large h =
      let large : 255 < value_from 0 w = let e = value_said in omega arith in
      reads ∙ rw (lt-leb (value_from 0 w) 255 large)

  pub says_sign : v ≤ 255 → sign_of k w ≡ Ok v
  says_sign h =
      let is : value_from 0 w ≡ v = let e = value_said in omega arith in
      reads ∙ rw (is, le-leb v 255 h)
