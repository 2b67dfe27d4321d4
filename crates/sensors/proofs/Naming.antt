-- Searches through candidates. Assumes nothing.
use Rattle.std.proofs.Common.{◌≡◌, ℕ, zero, suc, ◌+◌, ◌<◌, ◌≤◌, Bool, true, false, cond, Option, Some, None, MatchOption, sym, refl, ap, ◌∙◌, ⊎_elim, true≢false, arith}
use Rattle.std.proofs.lemmas.Bool.{cases_eq}
use Rattle.sensors.specs.Candidates.{first_where}

-- the first of n indices from i on that passes, said of the indices
abbrev pub IsFirst : (test : ℕ → Bool) (i n : ℕ) → Option ℕ → Type 0
IsFirst test i n r =
    MatchOption r ((k : ℕ) → i ≤ k → k < n → test k ≡ false) (λ j. (i ≤ j) × (j < n) × (test j ≡ true) × ((k : ℕ) → i ≤ k → k < j → test k ≡ false))

first_from : (test : ℕ → Bool) (i n m : ℕ) (r : Option ℕ) → i + n ≡ m → IsFirst test i m r → r ≡ first_where test i n
unfolding first_where
first_from test i zero m None e none = refl
first_from test i zero m (Some j) e f = absurd (omega (arith, f.0, f.1))
first_from test i (suc n) m None e none =
    let here : test i ≡ false = none i (omega arith) (omega arith) in
    rw here (first_from test (suc i) n m None (omega arith) (λ k le lt. none k (omega arith) lt))
first_from test i (suc n) m (Some j) e f = by_case (test i) refl (λ k. first_from test (suc i) n m (Some j) (omega arith) k)
  where
    by_case : (b : Bool) → test i ≡ b → (IsFirst test (suc i) m (Some j) → Some j ≡ first_where test (suc i) n) → Some j ≡ cond b (Some i) (first_where test (suc i) n)
    by_case true t below = ⊎_elim (λ eq. ap Some eq) (λ ne. absurd (true≢false (sym t ∙ f.3 i (omega arith) (omega (arith, f.0))))) (cases_eq j i)
    by_case false t below =
        let apart : i ≡ j → ⊥ = λ eq. true≢false (sym f.2 ∙ ap test (sym eq) ∙ t) in
        below (omega (arith, f.0), f.1, f.2, λ k le lt. f.3 k (omega arith) lt)

pub first_is : (test : ℕ → Bool) (n : ℕ) (r : Option ℕ) → IsFirst test 0 n r → r ≡ first_where test 0 n
first_is test n r = first_from test 0 n n r (omega arith)
