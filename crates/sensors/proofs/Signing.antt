-- Signs of their own for the chosen candidates. Assumes nothing.
use Rattle.std.proofs.Common.{◌≡◌, ℕ, zero, suc, ◌+◌, ◌*◌, ◌/◌, ◌<◌, ◌≤◌, Bool, true, false, ◌&&◌, ◌||◌, eqb, ◌≢◌, List, [], ◌∷◌, map, length, get_or, take, set, Option, Some, None, MatchBool, MatchOption, sym, refl, ap, ◌∙◌, subst, ⊎_elim, true≢false, add-one, arith, length-set}
use Rattle.std.specs.List.{AllWithin, HoldsAt, range_with_len}
use Rattle.std.proofs.lemmas.List.FromFn.{length-range_with_len, get_or-range_with_len}
use Rattle.graph.specs.Member.{Among, here, there}
use Rattle.graph.proofs.Member.{Distinct, none, more, distinct_length, among_cases, among_map, none_among, length-map}
use Rattle.plant.proofs.States.{below, length-below, among_below}
use Rattle.std.proofs.lemmas.List.{get_or-set_same, get_or-set_other, get_or_past, take_all}
use Rattle.std.proofs.lemmas.Bool.{eqb-true, eqb-false, or_parts, or_cases, cases_lt, ne_eqb}
use Rattle.sensors.specs.Candidates.{chosen}
use Rattle.sensors.specs.Signs.{InUse, Unused, Given, Signed}

-- some event shows the sign, or none does
pub shown_by : (es : List ℕ) (s n : ℕ) → n ≡ length es / 2 → (r : Bool)
    → MatchBool r ((k : ℕ) × (k < length (range_with_len 0 n)) × HoldsAt (λ e. get_or es (2 * e) 0 ≡ s) (range_with_len 0 n) k) (AllWithin (λ e. get_or es (2 * e) 0 ≢ s) (range_with_len 0 n) 0 (length (range_with_len 0 n)))
    → MatchBool r (InUse es s) (InUse es s → ⊥)
shown_by es s n size true some =
    let long = length-range_with_len 0 n in
    let at : get_or (range_with_len 0 n) some.0 0 ≡ some.0 = get_or-range_with_len 0 n some.0 0 (omega (arith, some.1)) ∙ omega arith in
    (some.0, omega (arith, some.1), rw at at (some.2 0))
shown_by es s n size false out = λ u.
    let long = length-range_with_len 0 n in
    let at : get_or (range_with_len 0 n) u.0 0 ≡ u.0 = get_or-range_with_len 0 n u.0 0 (omega (arith, u.1)) ∙ omega arith in
    (rw at at (out u.0 0 (omega arith) (omega (arith, u.1)))) u.2

-- the first sign of which none does
pub unused_by : (es : List ℕ) (r : Option ℕ)
    → MatchOption r ((o : ℕ) → 1 ≤ o → o < 256 → InUse es o) (λ o. (1 ≤ o) × (o < 256) × (InUse es o → ⊥) × ((k : ℕ) → 1 ≤ k → k < o → InUse es k))
    → MatchOption r ((o : ℕ) → 1 ≤ o → o < 256 → InUse es o) (Unused es)
unused_by es None all = all
unused_by es (Some o) f = record { some = f.0; small = omega (arith, f.1); free = f.2; least = f.3 }

-- numbers below n are all different
among_small : (n k : ℕ) → Among k (below n) → k < n
unfolding below
among_small zero k m = absurd (none_among m)
among_small (suc n) k m = ⊎_elim (λ e. omega arith) (λ l. let h = among_small n k l in omega arith) (among_cases m)

distinct_below : (n : ℕ) → Distinct (below n)
unfolding below
distinct_below zero = none
distinct_below (suc n) = more n (below n) (λ m. let h = among_small n n m in omega arith) (distinct_below n)

-- 64 events cannot show 255 signs
pub crowded : (es : List ℕ) → length es ≡ 128 → ((o : ℕ) → 1 ≤ o → o < 256 → InUse es o) → ⊥
crowded es size all =
    let few : 66 ≤ length shown = subst (λ (n : ℕ). n ≤ length shown) length_below_66 (distinct_length shown (distinct_below 66) (λ k m. found k (among_small 66 k m))) in
    omega (arith, length_shown)
  where
    sign : ℕ → ℕ
    sign e = get_or es (2 * e) 0

    shown : List ℕ
    shown = 0 ∷ map sign (below 64)

    length_below_66 : length (below 66) ≡ 66
    length_below_66 = length-below 66

    length_shown : length shown ≡ 65
    length_shown = ap suc (length-map sign (below 64) ∙ length-below 64)

    at : (k : ℕ) → InUse es k → Among k shown
    at k u = subst (λ (o : ℕ). Among o shown) u.2 (there 0 (map sign (below 64)) (among_map sign (among_below 64 u.0 (omega (arith, u.1)))))

    found : (k : ℕ) → k < 66 → Among k shown
    found zero h = here (map sign (below 64))
    found (suc k) h = at (suc k) (all (suc k) (omega arith) (omega arith))

-- past the events nothing is shown
not_shown : (es : List ℕ) (s : ℕ) → length es ≡ 128 → Unused es s → (d : ℕ) → get_or es (2 * d) 0 ≡ s → ⊥
not_shown es s size unused d e =
    ⊎_elim (λ lt. unused.free (d, omega arith, e)) (λ le. let z = get_or_past es (2 * d) 0 (omega arith) in absurd (omega (arith, unused.some))) (cases_lt d 64)

module _ (es r r₁ : List ℕ) (a : ℕ → Bool) (c : ℕ) (size : length r ≡ 128) (small : c < 64) (so_far : Signed es a r) (given : Given r c r₁) where
  s : ℕ
  s = given.sign

  -- what each event shows now
  new : (e : ℕ) → eqb c e ≡ true → get_or r₁ (2 * e) 0 ≡ s
  unfolding s
  new e same =
      let at : c ≡ e = eqb-true c e same in
      let lt : 2 * e < length r = omega arith in
      let twice : 2 * c ≡ 2 * e = omega arith in
      ap (λ (xs : List ℕ). get_or xs (2 * e) 0) (given.is ∙ ap (λ (k : ℕ). set r k given.sign) twice) ∙ get_or-set_same r (2 * e) given.sign 0 lt

  old : (e : ℕ) → eqb c e ≡ false → get_or r₁ (2 * e) 0 ≡ get_or r (2 * e) 0
  old e other =
      let apart = eqb-false c e other in
      let ne : 2 * e ≢ 2 * c = λ h. apart (omega arith) in
      ap (λ (xs : List ℕ). get_or xs (2 * e) 0) given.is ∙ get_or-set_other r (2 * c) (2 * e) given.sign 0 ne

  one : (e : ℕ) → (a e || eqb c e) ≡ true → eqb c e ≡ false → a e ≡ true
  one e h other = ⊎_elim (λ x. x) (λ y. absurd (true≢false (sym y ∙ other))) (or_cases (a e) (eqb c e) h)

  small_by : (e : ℕ) (k : Bool) → eqb c e ≡ k → get_or r (2 * e) 0 ≤ 255 → get_or r₁ (2 * e) 0 ≤ 255
  unfolding s
  small_by e true k h = omega (arith, new e k, given.unused.small)
  small_by e false k h = omega (arith, old e k)

  something_by : (e : ℕ) (k : Bool) → eqb c e ≡ k → (a e || eqb c e) ≡ true → get_or r₁ (2 * e) 0 ≡ 0 → ⊥
  unfolding s
  something_by e true k h z = omega (arith, new e k, given.unused.some)
  something_by e false k h z = so_far.something e (one e h k) (sym (old e k) ∙ z)

  own_by : (e d : ℕ) (k l : Bool) → eqb c e ≡ k → eqb c d ≡ l → (a e || eqb c e) ≡ true → get_or r₁ (2 * d) 0 ≡ get_or r₁ (2 * e) 0 → d ≡ e
  unfolding s
  own_by e d true true k l h same = sym (eqb-true c d l) ∙ eqb-true c e k
  own_by e d true false k l h same = absurd (not_shown r s size given.unused d (sym (old d l) ∙ same ∙ new e k))
  own_by e d false true k l h same = absurd (not_shown r s size given.unused e (sym (old e k) ∙ sym same ∙ new d l))
  own_by e d false false k l h same = so_far.own e d (one e h k) (sym (old d l) ∙ same ∙ old e k)

  faults_by : (e : ℕ) → get_or r₁ (2 * e + 1) 0 ≡ get_or r (2 * e + 1) 0
  faults_by e =
      let ne : 2 * e + 1 ≢ 2 * c = λ h. omega arith in
      ap (λ (xs : List ℕ). get_or xs (2 * e + 1) 0) given.is ∙ get_or-set_other r (2 * c) (2 * e + 1) given.sign 0 ne

  signed_given : Signed es (λ e. a e || eqb c e) r₁
  signed_given = record {
    size = ap length given.is ∙ length-set r (2 * c) given.sign ∙ so_far.size;
    small = λ was e. small_by e (eqb c e) refl (so_far.small was e);
    faults = λ e. faults_by e ∙ so_far.faults e;
    others = λ e h. let p = or_parts (a e) (eqb c e) h in old e p.1 ∙ so_far.others e p.0;
    something = λ e. something_by e (eqb c e) refl;
    own = λ e d. own_by e d (eqb c e) (eqb c d) refl refl;
  }

or_none : (x : Bool) → x ≡ (x || false)
or_none true = refl
or_none false = refl

or_assoc : (x y z : Bool) → ((x || y) || z) ≡ (x || (y || z))
or_assoc true y z = refl
or_assoc false y z = refl

-- one candidate more
chosen_more : (cs ms : List ℕ) (i e : ℕ) → i < length cs → (chosen (take i cs) ms e || (eqb (get_or ms i 0) 1 && eqb (get_or cs i 0) e)) ≡ chosen (take (suc i) cs) ms e
unfolding chosen
chosen_more [] ms i e h = absurd (omega arith)
chosen_more (c ∷ cs) [] zero e h = refl
chosen_more (c ∷ cs) [] (suc i) e h = refl
chosen_more (c ∷ cs) (m ∷ ms) zero e h = or_none (eqb m 1 && eqb c e)
chosen_more (c ∷ cs) (m ∷ ms) (suc i) e h =
    or_assoc (eqb m 1 && eqb c e) _ _ ∙ ap (λ (b : Bool). (eqb m 1 && eqb c e) || b) (chosen_more cs ms i e (omega arith))

-- the same set said otherwise
signed_as : (es r : List ℕ) (a b : ℕ → Bool) → ((e : ℕ) → b e ≡ a e) → Signed es a r → Signed es b r
signed_as es r a b same s = record {
  size = s.size;
  small = s.small;
  faults = s.faults;
  others = λ e h. s.others e (sym (same e) ∙ h);
  something = λ e h. s.something e (sym (same e) ∙ h);
  own = λ e d h. s.own e d (sym (same e) ∙ h);
}

-- after i candidates the next is c, with mark m
module _ (es r cs ms : List ℕ) (i c m n : ℕ) (there' : i < length cs) (is : c ≡ get_or cs i 0) (mark : m ≡ get_or ms i 0) (next : n ≡ i + 1) (so_far : Signed es (chosen (take i cs) ms) r) where
  same : (e : ℕ) → (chosen (take i cs) ms e || (eqb m 1 && eqb c e)) ≡ chosen (take n cs) ms e
  same e = rw (is, mark, next, add-one) (chosen_more cs ms i e there')

  pub signed_more : (r₁ : List ℕ) → length r ≡ 128 → c < 64 → m ≡ 1 → Given r c r₁ → Signed es (chosen (take n cs) ms) r₁
  signed_more r₁ size small one given =
      signed_as es r₁ _ _ (λ e. sym (ap (λ (k : ℕ). chosen (take i cs) ms e || (eqb k 1 && eqb c e)) (sym one) ∙ same e)) (signed_given es r r₁ _ c size small so_far given)

  pub signed_kept : (m ≡ 1 → ⊥) → Signed es (chosen (take n cs) ms) r
  signed_kept not-one =
      signed_as es r _ _ (λ e. sym (or_none (chosen (take i cs) ms e) ∙ ap (λ (b : Bool). chosen (take i cs) ms e || (b && eqb c e)) (sym (ne_eqb m 1 not-one)) ∙ same e)) so_far

-- before the first
pub signed_none : (es cs ms : List ℕ) → Signed es (chosen (take 0 cs) ms) es
unfolding chosen
signed_none es cs ms = record {
  size = refl;
  small = λ was. was;
  faults = λ e. refl;
  others = λ e h. refl;
  something = λ e h z. absurd (true≢false (sym h));
  own = λ e d h s. absurd (true≢false (sym h));
}

-- and behind the last
pub signed_all : (es r cs ms : List ℕ) (i : ℕ) → length cs ≤ i → Signed es (chosen (take i cs) ms) r → Signed es (chosen cs ms) r
signed_all es r cs ms i h s = subst (λ (xs : List ℕ). Signed es (chosen xs ms) r) (take_all i cs h) s
