-- Arrows as numbers in threes, by place. Assumes nothing.
use Rattle.std.proofs.Common.{◌≡◌, ℕ, zero, suc, ◌+◌, ◌*◌, ◌/◌, ◌<◌, List, [], ◌∷◌, length, get_or, refl, ap, subst, arith}
use Rattle.plant.specs.declared.parts.Arrow.{Arrow}
use Rattle.plant.specs.Model.{no_arrow}
use Rattle.plant.specs.Numbers.{arrows_in}

pub length_threes : (xs : List ℕ) → length (arrows_in xs) ≡ length xs / 3
unfolding arrows_in
length_threes [] = refl
length_threes (a ∷ []) = refl
length_threes (a ∷ (b ∷ [])) = refl
length_threes (a ∷ (b ∷ (c ∷ xs))) = let h : length (arrows_in xs) ≡ length xs / 3 = length_threes xs in omega arith

past_three : (a b c : ℕ) (xs : List ℕ) (n m : ℕ) → n ≡ m + 3 → get_or (a ∷ b ∷ c ∷ xs) n 0 ≡ get_or xs m 0
past_three a b c xs n m e = let s : n ≡ suc (suc (suc m)) = omega arith in ap (λ (k : ℕ). get_or (a ∷ b ∷ c ∷ xs) k 0) s

-- the three numbers from place j on are arrow i
abbrev pub three : List ℕ → ℕ → Arrow
three xs j = record { from = get_or xs j 0; event = get_or xs (j + 1) 0; to = get_or xs (j + 2) 0 }

pub three_at : (xs : List ℕ) (i j : ℕ) → j ≡ 3 * i → j + 2 < length xs → three xs j ≡ get_or (arrows_in xs) i no_arrow
unfolding arrows_in
three_at [] i j e h = absurd (omega arith)
three_at (a ∷ []) i j e h = absurd (omega arith)
three_at (a ∷ (b ∷ [])) i j e h = absurd (omega arith)
three_at (a ∷ (b ∷ (c ∷ xs))) zero j e h =
    let z : 0 ≡ j = omega arith in
    subst (λ (k : ℕ). three (a ∷ b ∷ c ∷ xs) k ≡ record { from = a; event = b; to = c }) z refl
three_at (a ∷ (b ∷ (c ∷ xs))) (suc i) j e h =
    let p = past_three a b c xs j (3 * i) (omega arith) in
    let q = past_three a b c xs (j + 1) (3 * i + 1) (omega arith) in
    let r = past_three a b c xs (j + 2) (3 * i + 2) (omega arith) in
    let below = three_at xs i (3 * i) refl (omega arith) in
    cc
