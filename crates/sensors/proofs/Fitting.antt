-- Nothing is turned away if and only if it fits. Assumes nothing.
use Rattle.std.proofs.Common.{◌≡◌, ℕ, zero, suc, ◌+◌, ◌*◌, ◌/◌, ◌<◌, ◌≤◌, Bool, false, cond, not, eqb, ltb, leb, List, length, get_or, take, Some, None, is_some, refl, ap, arith}
use Rattle.std.proofs.lemmas.Bool.{ltb-false, le-ltb, leb-false, lt-leb, eqb-true, eq-eqb, or_parts, or_from, not-false, not_from_true}
use Rattle.plant.specs.declared.parts.Refusal.TheVariants.{Candidates}
use Rattle.plant.specs.Refusals.{refusal}
use Rattle.plant.proofs.Valid.{or_else_none, mapped_none, passed, failed, refused_or_valid}
use Rattle.outcome.proofs.Passed.{none_by}
use Rattle.sensors.specs.declared.selection.Selection.{Selection}
use Rattle.sensors.specs.Candidates.{named, unfit, first_where, candidates_refusal, choice_refusal, Fit, RefusedOrFit}

-- no index passes the test
first_none : (test : ℕ → Bool) (i n : ℕ) → first_where test i n ≡ None → (k : ℕ) → k < n → test (i + k) ≡ false
unfolding first_where
first_none test i zero e k h = absurd (omega arith)
first_none test i (suc n) e k h = by_case (passed' (test i) e) k h (first_none test (suc i) n)
  where
    passed' : (b : Bool) → cond b (Some i) (first_where test (suc i) n) ≡ None → (b ≡ false) × (first_where test (suc i) n ≡ None)
    passed' b e = failed b _ _ e

    by_case : (test i ≡ false) × (first_where test (suc i) n ≡ None) → (k : ℕ) → k < suc n → (first_where test (suc i) n ≡ None → (k : ℕ) → k < n → test (suc i + k) ≡ false) → test (i + k) ≡ false
    by_case p zero h below = let z : i + 0 ≡ i = omega arith in rw z p.0
    by_case p (suc k) h below = let s : i + suc k ≡ suc i + k = omega arith in rw s (below p.1 k (omega arith))

none_first : (test : ℕ → Bool) (i n : ℕ) → ((k : ℕ) → k < n → test (i + k) ≡ false) → first_where test i n ≡ None
unfolding first_where
none_first test i zero none = refl
none_first test i (suc n) none =
    let z : i + 0 ≡ i = omega arith in
    let here : test i ≡ false = rw z at (none 0 (omega arith)) in
    rw here (none_first test (suc i) n (λ k h. let s : suc i + k ≡ i + suc k = omega arith in rw s (none (suc k) (omega arith))))

-- what it means that a candidate and its price can be
abbrev CanBe : (es cs ps : List ℕ) (i : ℕ) → Type 0
CanBe es cs ps i = (get_or cs i 0 < length es / 2) × (get_or es (2 * get_or cs i 0) 0 ≡ 0) × (named (get_or cs i 0) (take i cs) ≡ false) × (get_or ps i 0 < 4294967296)

module _ (es cs ps : List ℕ) (i : ℕ) where
  can_be : unfit es cs ps i ≡ false → CanBe es cs ps i
  unfolding unfit
  can_be e =
      let a = or_parts (leb (length es / 2) (get_or cs i 0)) _ e in
      let b = or_parts (not (eqb (get_or es (2 * get_or cs i 0) 0) 0)) _ a.1 in
      let d = or_parts (named (get_or cs i 0) (take i cs)) _ b.1 in
      (leb-false (length es / 2) (get_or cs i 0) a.0, eqb-true (get_or es (2 * get_or cs i 0) 0) 0 (not-false _ b.0), d.0, leb-false 4294967296 (get_or ps i 0) d.1)

  not_unfit : CanBe es cs ps i → unfit es cs ps i ≡ false
  unfolding unfit
  not_unfit b =
      or_from _ _ (lt-leb (length es / 2) (get_or cs i 0) b.0)
      (or_from _ _ (not_from_true _ (eq-eqb (get_or es (2 * get_or cs i 0) 0) 0 b.1)) (or_from _ _ b.2 (lt-leb 4294967296 (get_or ps i 0) b.3)))

abbrev CandidatesFit : (es cs ps : List ℕ) (marks : ℕ) → Type 0
CandidatesFit es cs ps marks = (length cs ≤ 12) × (length ps ≡ length cs) × (marks ≡ length cs) × ((i : ℕ) → i < length cs → CanBe es cs ps i)

module _ (es cs ps : List ℕ) (marks : ℕ) where
  candidates_fit : candidates_refusal es cs ps marks ≡ None → CandidatesFit es cs ps marks
  unfolding candidates_refusal
  candidates_fit e =
      let few = failed (ltb 12 (length cs)) _ _ e in
      let priced = passed (eqb (length ps) (length cs)) _ _ few.1 in
      let marked = passed (eqb marks (length cs)) _ _ priced.1 in
      let none = mapped_none Candidates _ marked.1 in
      (ltb-false 12 (length cs) few.0, eqb-true (length ps) (length cs) priced.0, eqb-true marks (length cs) marked.0, λ i h. can_be es cs ps i (at i h none))
    where
      at : (i : ℕ) → i < length cs → first_where (unfit es cs ps) 0 (length cs) ≡ None → unfit es cs ps i ≡ false
      at i h none = let z : 0 + i ≡ i = omega arith in rw z at (first_none (unfit es cs ps) 0 (length cs) none i h)

  fit_candidates : CandidatesFit es cs ps marks → candidates_refusal es cs ps marks ≡ None
  unfolding candidates_refusal
  fit_candidates fit =
      rw (le-ltb 12 (length cs) fit.0, eq-eqb (length ps) (length cs) fit.1, eq-eqb marks (length cs) fit.2, none_first (unfit es cs ps) 0 (length cs) (λ k h. at k h)) refl
    where
      at : (k : ℕ) → k < length cs → unfit es cs ps (0 + k) ≡ false
      at k h = let z : 0 + k ≡ k = omega arith in rw z (not_unfit es cs ps k (fit.3 k h))

pub refused_or_fit : RefusedOrFit
refused_or_fit n xs es cs ps marks = (fits, none)
  where
    fits : choice_refusal n xs es cs ps marks ≡ None → Fit n xs es cs ps × (marks ≡ length cs)
    fits e =
        let both = or_else_none (refusal n xs es) _ e in
        let c = candidates_fit es cs ps marks both.1 in (
          record {
            valid = (refused_or_valid n xs es).0 both.0;
            few = c.0;
            priced = c.1;
            event = λ i h. (c.3 i h).0;
            silent = λ i h. (c.3 i h).1;
            new = λ i h. (c.3 i h).2;
            cheap = λ i h. (c.3 i h).3;
          },
          c.2,
        )

    none : Fit n xs es cs ps × (marks ≡ length cs) → choice_refusal n xs es cs ps marks ≡ None
    none f =
        let fit = f.0 in
        rw ((refused_or_valid n xs es).1 fit.valid) (fit_candidates es cs ps marks (fit.few, fit.priced, f.1, λ i h. (fit.event i h, fit.silent i h, fit.new i h, fit.cheap i h)))

-- what a selection's parts keep to
pub fitted : (s : Selection) → Fit s.numbers.states s.numbers.arrows.now s.numbers.events.now s.candidates.now s.prices.now
fitted s = ((refused_or_fit s.numbers.states s.numbers.arrows.now s.numbers.events.now s.candidates.now s.prices.now (length s.candidates.now)).0 (none_by _ s.fit)).0

-- numbers that are not turned away make a selection
pub selected : (n : ℕ) (xs es cs ps : List ℕ) (marks : ℕ) → choice_refusal n xs es cs ps marks ≡ None → (marks ≡ length cs) × (is_some (choice_refusal n xs es cs ps (length cs)) ≡ false)
selected n xs es cs ps marks e =
    let fit = (refused_or_fit n xs es cs ps marks).0 e in
    (fit.1, ap is_some ((refused_or_fit n xs es cs ps (length cs)).1 (fit.0, refl)))
