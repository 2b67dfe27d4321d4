-- Marks and sums of sets. Assumes nothing.
use Rattle.std.proofs.Common.{◌≡◌, ℕ, suc, ◌+◌, ◌-◌, ◌/◌, ◌%◌, ◌*◌, ◌<◌, ◌≤◌, Bool, true, false, cond, eqb, List, [], ◌∷◌, ◌++◌, map, length, get_or, take, set, sym, refl, ap, ◌∙◌, arith}
use Rattle.std.proofs.lemmas.List.{take_more_set, take_all, append-nil, append_assoc}
use Rattle.std.specs.List.{filter, sum, zip}
use Rattle.std.proofs.lemmas.List.Sums.{sum_by-cons}
use Rattle.sensors.specs.Candidates.{cost}
use Rattle.sensors.specs.Sets.{digits}

-- the prices that are marked
abbrev pub marked : (ps ms : List ℕ) → List ℕ
marked ps ms = map (λ (p : ℕ × ℕ). p.0) (filter (λ (p : ℕ × ℕ). eqb p.1 1) (zip ps ms))

-- their sum is the cost
pub marked_sum : (ps ms : List ℕ) → sum (marked ps ms) ≡ cost ps ms
unfolding cost
marked_sum [] ms = refl
marked_sum (p ∷ ps) [] = refl
marked_sum (p ∷ ps) (m ∷ ms) = by_case (eqb m 1) (marked_sum ps ms)
  where
    by_case : (b : Bool) → sum (marked ps ms) ≡ cost ps ms → sum (map (λ (q : ℕ × ℕ). q.0) (cond b ((p, m) ∷ filter (λ (q : ℕ × ℕ). eqb q.1 1) (zip ps ms)) (filter (λ (q : ℕ × ℕ). eqb q.1 1) (zip ps ms)))) ≡ cond b p 0 + cost ps ms
    by_case true e = sum_by-cons (λ (x : ℕ). x) p (marked ps ms) ∙ ap (λ (k : ℕ). p + k) e
    by_case false e = omega (arith, e)

-- a bound for it
pub cost_small : (ps ms : List ℕ) (most : ℕ) → ((i : ℕ) → i < length ps → get_or ps i 0 < most) → cost ps ms ≤ length ps * most
unfolding cost
cost_small [] ms most cheap = omega arith
cost_small (p ∷ ps) [] most cheap = omega arith
cost_small (p ∷ ps) (m ∷ ms) most cheap = by_case (eqb m 1) (cheap 0 (omega arith)) (cost_small ps ms most (λ i h. cheap (suc i) (omega arith)))
  where
    by_case : (b : Bool) → p < most → cost ps ms ≤ length ps * most → cond b p 0 + cost ps ms ≤ suc (length ps) * most
    by_case true lt le = omega arith
    by_case false lt le = omega arith

-- one mark more
pub digits_more : (ms : List ℕ) (i n s rest : ℕ) → i < length ms → length ms ≡ n → take i ms ++ digits (n - i) rest ≡ digits n s
    → take (i + 1) (set ms i (rest % 2)) ++ digits (n - (i + 1)) (rest / 2) ≡ digits n s
unfolding digits
digits_more ms i n s rest h size e =
    let k : n - i ≡ suc (n - (i + 1)) = omega arith in
    ap (λ (xs : List ℕ). xs ++ digits (n - (i + 1)) (rest / 2)) (take_more_set ms i (rest % 2) h)
    ∙ append_assoc (take i ms) (rest % 2 ∷ []) (digits (n - (i + 1)) (rest / 2))
    ∙ ap (λ (j : ℕ). take i ms ++ digits j rest) (sym k) ∙ e

pub digits_all : (ms : List ℕ) (i n s rest : ℕ) → n ≤ i → length ms ≡ n → take i ms ++ digits (n - i) rest ≡ digits n s → ms ≡ digits n s
unfolding digits
digits_all ms i n s rest h size e =
    let z : n - i ≡ 0 = omega arith in
    sym (append-nil ms) ∙ ap (λ (xs : List ℕ). xs ++ []) (sym (take_all i ms (omega arith))) ∙ ap (λ (j : ℕ). take i ms ++ digits j rest) (sym z) ∙ e
