-- Whether a mark occurs, looked for place by place. Assumes nothing.
use Rattle.std.proofs.Common.{◌≡◌, ℕ, zero, suc, ◌%◌, ◌<◌, true, false, List, [], ◌∷◌, length, get_or, refl, arith}
use Rattle.std.proofs.lemmas.Bool.{eq-eqb, ne_eqb, or_left, or_right}
use Rattle.sorts.specs.Sorts.{occurs}

pub occurs_here : (k : ℕ) (es : List ℕ) (i : ℕ) → i < length es → i % 2 ≡ 1 → get_or es i 0 ≡ k → occurs k es ≡ true
unfolding occurs
occurs_here k [] i h odd is = absurd (omega arith)
occurs_here k (s ∷ []) zero h odd is = absurd (omega arith)
occurs_here k (s ∷ []) (suc i) h odd is = absurd (omega arith)
occurs_here k (s ∷ (m ∷ es)) zero h odd is = absurd (omega arith)
occurs_here k (s ∷ (m ∷ es)) (suc zero) h odd is = or_left _ _ (eq-eqb m k is)
occurs_here k (s ∷ (m ∷ es)) (suc (suc i)) h odd is = or_right _ _ (occurs_here k es i (omega arith) (omega arith) is)

pub occurs_nowhere : (k : ℕ) (es : List ℕ) → ((i : ℕ) → i < length es → i % 2 ≡ 1 → get_or es i 0 ≡ k → ⊥) → occurs k es ≡ false
unfolding occurs
occurs_nowhere k [] none = refl
occurs_nowhere k (s ∷ []) none = refl
occurs_nowhere k (s ∷ (m ∷ es)) none = rw (ne_eqb m k (λ e. none 1 (omega arith) (omega arith) e)) (occurs_nowhere k es (λ i h odd is. none (suc (suc i)) (omega arith) (omega arith) is))
