-- No rule turns numbers away if and only if they make a plant. Assumes nothing.
use Rattle.std.proofs.Common.{◌≡◌, ℕ, zero, suc, ◌+◌, ◌*◌, ◌/◌, ◌%◌, ◌<◌, ◌≤◌, Bool, true, false, cond, eqb, ltb, List, [], ◌∷◌, length, get_or, is_some, Some, None, Option, sym, refl, subst, ⊎_elim, true≢false, add-zero, arith}
use Rattle.std.specs.Option.{option_map}
use Rattle.std.proofs.ByRecursion.{All-get_or, All-from_get_or}
use Rattle.std.proofs.lemmas.Bool.{ltb-true, ltb-false, lt-ltb, le-ltb, eqb-true, eq-eqb, cases_eq}
use Rattle.std.proofs.lemmas.Bool.Decides.{nat_tests}
use Rattle.plant.specs.declared.parts.Refusal.{Refusal}
use Rattle.plant.specs.declared.parts.Refusal.TheVariants.{States, Events, Arrows, Room, Memory, Text, Sorts, Candidates, Labelling}
use Rattle.plant.specs.Model.{no_arrow}
use Rattle.plant.specs.Numbers.{arrows_in}
use Rattle.plant.specs.Refusals.{number_of, or_else, first_over, states_refusal, events_refusal, arrows_refusal, refusal}
use Rattle.plant.specs.Validity.{Fits, Valid, RefusedOrValid}
use Rattle.plant.proofs.Threes.{three, three_at, length_threes}

some_none : {A : Type 0} {x : A} → Some x ≡ None → ⊥
some_none e = let z : ◌≡◌ {A = ℕ} 0 1 = cc in absurd (omega arith)

-- none at all if none of two
pub or_else_none : (a b : Option Refusal) → or_else a b ≡ None → (a ≡ None) × (b ≡ None)
or_else_none None b e = (refl, e)
or_else_none (Some r) b e = absurd (some_none e)

pub mapped_none : {A B : Type 0} (f : A → B) (o : Option A) → option_map f o ≡ None → o ≡ None
mapped_none f None e = refl
mapped_none f (Some x) e = absurd (some_none e)

-- each number is below the limit of its place
abbrev Under : (limits : List ℕ) (i : ℕ) → List ℕ → Type 0
Under limits i xs = (j : ℕ) → j < length xs → get_or xs j 0 < get_or limits ((i + j) % length limits) 0

-- at the head and behind it
under_cons : (limits : List ℕ) (i x : ℕ) (xs : List ℕ) → x < get_or limits (i % length limits) 0 → Under limits (suc i) xs → Under limits i (x ∷ xs)
under_cons limits i x xs here later zero h = let z : i + 0 ≡ i = omega arith in rw z here
under_cons limits i x xs here later (suc j) h = let s : i + suc j ≡ suc i + j = omega arith in rw s (later j (omega arith))

under_tail : (limits : List ℕ) (i x : ℕ) (xs : List ℕ) → Under limits i (x ∷ xs) → Under limits (suc i) xs
under_tail limits i x xs under j h = let s : suc i + j ≡ i + suc j = omega arith in rw s (under (suc j) (omega arith))

none_under : (limits : List ℕ) (i : ℕ) (xs : List ℕ) → first_over limits i xs ≡ None → Under limits i xs
unfolding first_over
none_under limits i [] e = λ j h. absurd (omega arith)
none_under limits i (x ∷ xs) e = by_limit (ltb x (get_or limits (i % length limits) 0)) refl e (none_under limits (suc i) xs)
  where
    by_limit : (b : Bool) → ltb x (get_or limits (i % length limits) 0) ≡ b → cond b (first_over limits (suc i) xs) (Some i) ≡ None → (first_over limits (suc i) xs ≡ None → Under limits (suc i) xs) → Under limits i (x ∷ xs)
    by_limit true l e below = under_cons limits i x xs (ltb-true x _ l) (below e)
    by_limit false l e below = absurd (some_none e)

under_none : (limits : List ℕ) (i : ℕ) (xs : List ℕ) → Under limits i xs → first_over limits i xs ≡ None
unfolding first_over
under_none limits i [] under = refl
under_none limits i (x ∷ xs) under =
    let here : x < get_or limits (i % length limits) 0 = rw add-zero at (under 0 (omega arith)) in
    rw (lt-ltb x (get_or limits (i % length limits) 0) here) (under_none limits (suc i) xs (under_tail limits i x xs under))

-- a rule that answers none has passed its test
pub passed : {A : Type 0} (b : Bool) (x : Option A) (r : A) → cond b x (Some r) ≡ None → (b ≡ true) × (x ≡ None)
passed true x r e = (refl, e)
passed false x r e = absurd (some_none e)

pub failed : {A : Type 0} (b : Bool) (x : Option A) (r : A) → cond b (Some r) x ≡ None → (b ≡ false) × (x ≡ None)
failed true x r e = absurd (some_none e)
failed false x r e = (refl, e)

abbrev StatesFit : ℕ → Type 0
StatesFit n = (1 ≤ n) × (n ≤ 32)

abbrev EventsFit : List ℕ → Type 0
EventsFit es = (length es ≤ 128) × (length es % 2 ≡ 0) × Under (256 ∷ 2 ∷ []) 0 es

abbrev ArrowsFit : ℕ → List ℕ → List ℕ → Type 0
ArrowsFit n xs es = (length xs % 3 ≡ 0) × (length xs ≤ 3072) × Under (n ∷ length es / 2 ∷ n ∷ []) 0 xs

states_fit : (n : ℕ) → states_refusal n ≡ None → StatesFit n
unfolding states_refusal
states_fit n e = (grind (arith, nat_tests), grind (arith, nat_tests))

events_fit : (es : List ℕ) → events_refusal es ≡ None → EventsFit es
unfolding events_refusal
events_fit es e =
    let few = failed (ltb 128 (length es)) _ _ e in
    let whole = passed (eqb (length es % 2) 0) _ _ few.1 in
    (ltb-false 128 (length es) few.0, eqb-true (length es % 2) 0 whole.0, none_under (256 ∷ 2 ∷ []) 0 es (mapped_none Events _ whole.1))

arrows_fit : (n : ℕ) (xs es : List ℕ) → arrows_refusal n xs es ≡ None → ArrowsFit n xs es
unfolding arrows_refusal
arrows_fit n xs es e =
    let whole = passed (eqb (length xs % 3) 0) _ _ e in
    let few = failed (ltb 3072 (length xs)) _ _ whole.1 in
    (eqb-true (length xs % 3) 0 whole.0, ltb-false 3072 (length xs) few.0, none_under (n ∷ length es / 2 ∷ n ∷ []) 0 xs (mapped_none Arrows _ few.1))

-- and back
fit_states : (n : ℕ) → StatesFit n → states_refusal n ≡ None
unfolding states_refusal
fit_states n fit = grind (arith, nat_tests)

fit_events : (es : List ℕ) → EventsFit es → events_refusal es ≡ None
unfolding events_refusal
fit_events es fit = rw (le-ltb 128 (length es) fit.0, eq-eqb (length es % 2) 0 fit.1, under_none (256 ∷ 2 ∷ []) 0 es fit.2)

fit_arrows : (n : ℕ) (xs es : List ℕ) → ArrowsFit n xs es → arrows_refusal n xs es ≡ None
unfolding arrows_refusal
fit_arrows n xs es fit = rw (eq-eqb (length xs % 3) 0 fit.0, le-ltb 3072 (length xs) fit.1, under_none (n ∷ length es / 2 ∷ n ∷ []) 0 xs fit.2)

module _ (n : ℕ) (xs es : List ℕ) where
  -- the limit of a place among two, and among three
  arrow_fits : ArrowsFit n xs es → (i : ℕ) → i < length (arrows_in xs) → Fits n (length es / 2) (get_or (arrows_in xs) i no_arrow)
  arrow_fits fit i h =
      let many = length_threes xs in
      let first : (0 + 3 * i) % 3 ≡ 0 = omega arith in
      let second : (0 + (3 * i + 1)) % 3 ≡ 1 = omega arith in
      let third : (0 + (3 * i + 2)) % 3 ≡ 2 = omega arith in
      subst (Fits n (length es / 2)) (three_at xs i (3 * i) refl (omega arith)) (record {
        from = rw first at (fit.2 (3 * i) (omega arith));
        event = rw second at (fit.2 (3 * i + 1) (omega arith));
        to = rw third at (fit.2 (3 * i + 2) (omega arith));
      })

  accepted_valid : StatesFit n → EventsFit es → ArrowsFit n xs es → Valid n xs es
  accepted_valid s e a =
      let many = length_threes xs in
      record {
        some_state = s.0;
        few_states = s.1;
        whole_events = omega arith;
        few_events = omega arith;
        signs = λ k h.
            let first : (0 + 2 * k) % 2 ≡ 0 = omega arith in
            let under : get_or es (2 * k) 0 < 256 = rw first at (e.2 (2 * k) (omega arith)) in
            omega arith;
        marks = λ k h.
            let second : (0 + (2 * k + 1)) % 2 ≡ 1 = omega arith in
            let under : get_or es (2 * k + 1) 0 < 2 = rw second at (e.2 (2 * k + 1) (omega arith)) in
            omega arith;
        whole_arrows = omega arith;
        few_arrows = omega arith;
        fits = All-from_get_or (Fits n (length es / 2)) (arrows_in xs) no_arrow (arrow_fits a);
      }

  valid_events : Valid n xs es → EventsFit es
  valid_events v = (omega (arith, v.whole_events, v.few_events), omega (arith, v.whole_events), under)
    where
      under : Under (256 ∷ 2 ∷ []) 0 es
      under j h =
          let k = j / 2 in
          ⊎_elim
          (λ even.
          let at : j ≡ 2 * k = omega arith in
          let first : (0 + j) % 2 ≡ 0 = omega arith in
          rw first (let le : get_or es j 0 ≤ 255 = rw at (v.signs k (omega (arith, v.whole_events))) in omega arith))
          (λ odd.
          let at : j ≡ 2 * k + 1 = omega arith in
          let second : (0 + j) % 2 ≡ 1 = omega arith in
          rw second (let le : get_or es j 0 ≤ 1 = rw at (v.marks k (omega (arith, v.whole_events))) in omega arith))
          (cases_eq (j % 2) 0)

  valid_arrows : Valid n xs es → ArrowsFit n xs es
  valid_arrows v = (omega (arith, v.whole_arrows), omega (arith, v.whole_arrows, v.few_arrows), under)
    where
      arrow : (i : ℕ) → 3 * i + 2 < length xs → Fits n (length es / 2) (three xs (3 * i))
      arrow i h =
          subst (Fits n (length es / 2)) (sym (three_at xs i (3 * i) refl h))
          (All-get_or (Fits n (length es / 2)) (arrows_in xs) i no_arrow (omega (arith, v.whole_arrows)) v.fits)

      under : Under (n ∷ length es / 2 ∷ n ∷ []) 0 xs
      under j h =
          let i = j / 3 in
          let fits = arrow i (omega (arith, v.whole_arrows)) in
          ⊎_elim
          (λ zeroth.
          let at : j ≡ 3 * i = omega arith in
          let first : (0 + j) % 3 ≡ 0 = omega arith in
          rw first (subst (λ (k : ℕ). get_or xs k 0 < n) (sym at) fits.from))
          (λ more.
          ⊎_elim
          (λ one.
          let at : j ≡ 3 * i + 1 = omega arith in
          let second : (0 + j) % 3 ≡ 1 = omega arith in
          rw second (subst (λ (k : ℕ). get_or xs k 0 < length es / 2) (sym at) fits.event))
          (λ two.
          let at : j ≡ 3 * i + 2 = omega arith in
          let third : (0 + j) % 3 ≡ 2 = omega arith in
          rw third (subst (λ (k : ℕ). get_or xs k 0 < n) (sym at) fits.to))
          (cases_eq (j % 3) 1))
          (cases_eq (j % 3) 0)

pub refused_or_valid : RefusedOrValid
refused_or_valid n xs es = (valid, none)
  where
    valid : refusal n xs es ≡ None → Valid n xs es
    valid e =
        let s = or_else_none (states_refusal n) _ e in
        let r = or_else_none (events_refusal es) _ s.1 in
        accepted_valid n xs es (states_fit n s.0) (events_fit es r.0) (arrows_fit n xs es r.1)

    none : Valid n xs es → refusal n xs es ≡ None
    none v =
        rw (fit_states n (v.some_state, v.few_states), fit_events es (valid_events n xs es v), fit_arrows n xs es (valid_arrows n xs es v))

-- a lent plant is valid
pub lent_valid : (n : ℕ) (xs es : List ℕ) → is_some (refusal n xs es) ≡ false → Valid n xs es
lent_valid n xs es e = (refused_or_valid n xs es).0 (none (refusal n xs es) e)
  where
    none : (o : Option Refusal) → is_some o ≡ false → o ≡ None
    none None e = refl
    none (Some r) e = absurd (true≢false e)

-- rules are numbered from 1
pub numbered : (r : Refusal) → 1 ≤ number_of r
numbered (States k) = omega arith
numbered (Events k) = omega arith
numbered (Arrows k) = omega arith
numbered (Room k) = omega arith
numbered (Memory k) = omega arith
numbered (Text k) = omega arith
numbered (Sorts k) = omega arith
numbered (Candidates k) = omega arith
numbered (Labelling k) = omega arith
