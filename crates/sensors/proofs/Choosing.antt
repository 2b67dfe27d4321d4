-- All sets are met by their numbers, and a cheapest of these is a cheapest of all. Assumes nothing.
use Rattle.std.proofs.Common.{◌≡◌, ℕ, zero, suc, ◌+◌, ◌*◌, ◌/◌, ◌%◌, ◌^◌, ◌<◌, ◌≤◌, Bool, true, false, ◌&&◌, eqb, List, [], ◌∷◌, length, get_or, replicate, sym, refl, ap, ◌∙◌, subst, ⊎_elim, true≢false, pow-suc, arith}
use lib.Bits.{bit_and, and_step}
use Rattle.std.specs.List.{AllByRecursion, HoldsAt}
use Rattle.std.proofs.lemmas.Bool.{cases_lt, or_cases, or_left, or_right, and_parts, and_from, eqb-true, eq-eqb, ne_eqb}
use Rattle.plant.specs.Numbers.{plant_in}
use Rattle.plant.specs.Plant.{Plant, ComesOut}
use Rattle.views.specs.Shown.{Shown, Within}
use Rattle.views.proofs.Showing.{shown_more, shown_some}
use Rattle.sensors.specs.declared.selection.Best.{Best}
use Rattle.sensors.specs.declared.selection.Known.{Known}
use Rattle.sensors.specs.declared.selection.Selection.{Selection}
use Rattle.sensors.specs.Candidates.{Fit, chosen, cost}
use Rattle.sensors.specs.Choice.{CheapestSet, NoSet}
use Rattle.sensors.specs.Sets.{digits, chosen_by, cost_by, plant_of, Never, Sound, NoLess, Failing, Better, BestOf}
use Rattle.outcome.proofs.Changed.{sign_small}
use Rattle.sensors.proofs.Fitting.{fitted}

-- the number of a set, of so many digits
bit : Bool → ℕ
bit true = 1
bit false = 0

code : ℕ → List ℕ → ℕ
code zero ms = 0
code (suc j) [] = 0
code (suc j) (m ∷ ms) = bit (eqb m 1) + 2 * code j ms

with_bit : (b : Bool) (c n : ℕ) → c < n → bit b + 2 * c < n * 2
unfolding bit
with_bit true c n h = omega arith
with_bit false c n h = omega arith

code_small : (j : ℕ) (ms : List ℕ) → code j ms < 2 ^ j
unfolding code
code_small zero ms = omega arith
code_small (suc j) [] = let h = code_small j [] in rw pow-suc (omega arith)
code_small (suc j) (m ∷ ms) = rw pow-suc (with_bit (eqb m 1) (code j ms) (2 ^ j) (code_small j ms))

-- its lowest digit, and the others
first_digit : (b : Bool) (c : ℕ) → eqb ((bit b + 2 * c) % 2) 1 ≡ b
unfolding bit
first_digit true c = eq-eqb ((1 + 2 * c) % 2) 1 (omega arith)
first_digit false c = ne_eqb ((0 + 2 * c) % 2) 1 (λ e. omega arith)

other_digits : (b : Bool) (c : ℕ) → (bit b + 2 * c) / 2 ≡ c
unfolding bit
other_digits true c = omega arith
other_digits false c = omega arith

no_digits : (cs : List ℕ) (k e : ℕ) → chosen cs (digits k 0) e ≡ false
unfolding chosen digits
no_digits [] k e = refl
no_digits (c ∷ cs) zero e = refl
no_digits (c ∷ cs) (suc k) e = no_digits cs k e

no_cost : (ps : List ℕ) (k : ℕ) → cost ps (digits k 0) ≡ 0
unfolding cost digits
no_cost [] k = refl
no_cost (p ∷ ps) zero = refl
no_cost (p ∷ ps) (suc k) = omega (arith, no_cost ps k)

-- any marks choose the set of their number
code_chosen : (cs ms : List ℕ) (j k e : ℕ) → length cs ≤ j → length cs ≤ k → chosen cs (digits k (code j ms)) e ≡ chosen cs ms e
unfolding chosen digits code
code_chosen [] ms j k e h i = refl
code_chosen (c ∷ cs) ms zero k e h i = absurd (omega arith)
code_chosen (c ∷ cs) ms (suc j) zero e h i = absurd (omega arith)
code_chosen (c ∷ cs) [] (suc j) (suc k) e h i = no_digits cs k e
code_chosen (c ∷ cs) (m ∷ ms) (suc j) (suc k) e h i =
    rw (first_digit (eqb m 1) (code j ms), other_digits (eqb m 1) (code j ms), code_chosen cs ms j k e (omega arith) (omega arith)) refl

code_cost : (ps ms : List ℕ) (j k : ℕ) → length ps ≤ j → length ps ≤ k → cost ps (digits k (code j ms)) ≡ cost ps ms
unfolding cost digits code
code_cost [] ms j k h i = refl
code_cost (p ∷ ps) ms zero k h i = absurd (omega arith)
code_cost (p ∷ ps) ms (suc j) zero h i = absurd (omega arith)
code_cost (p ∷ ps) [] (suc j) (suc k) h i = omega (arith, no_cost ps k)
code_cost (p ∷ ps) (m ∷ ms) (suc j) (suc k) h i =
    rw (first_digit (eqb m 1) (code j ms), other_digits (eqb m 1) (code j ms), code_cost ps ms j k (omega arith) (omega arith)) refl

-- digits past the candidates do not matter
enough_chosen : (cs : List ℕ) (s j k e : ℕ) → length cs ≤ j → length cs ≤ k → chosen cs (digits j s) e ≡ chosen cs (digits k s) e
unfolding chosen digits
enough_chosen [] s j k e h i = refl
enough_chosen (c ∷ cs) s zero k e h i = absurd (omega arith)
enough_chosen (c ∷ cs) s (suc j) zero e h i = absurd (omega arith)
enough_chosen (c ∷ cs) s (suc j) (suc k) e h i = rw (enough_chosen cs (s / 2) j k e (omega arith) (omega arith)) refl

enough_cost : (ps : List ℕ) (s j k : ℕ) → length ps ≤ j → length ps ≤ k → cost ps (digits j s) ≡ cost ps (digits k s)
unfolding cost digits
enough_cost [] s j k h i = refl
enough_cost (p ∷ ps) s zero k h i = absurd (omega arith)
enough_cost (p ∷ ps) s (suc j) zero h i = absurd (omega arith)
enough_cost (p ∷ ps) s (suc j) (suc k) h i = rw (enough_cost ps (s / 2) j k (omega arith) (omega arith)) refl

-- digits are marks
length_digits : (k s : ℕ) → length (digits k s) ≡ k
unfolding digits
length_digits zero s = refl
length_digits (suc k) s = ap suc (length_digits k (s / 2))

digits_ones : (k s : ℕ) → AllByRecursion (λ m. m ≤ 1) (digits k s)
unfolding digits
digits_ones zero s = tt
digits_ones (suc k) s = (omega arith, digits_ones k (s / 2))

-- every set lies in the whole one
within_ones : (cs ms : List ℕ) (n e : ℕ) → length cs ≤ n → chosen cs ms e ≡ true → chosen cs (replicate n 1) e ≡ true
unfolding chosen
within_ones [] ms n e h t = t
within_ones (c ∷ cs) [] n e h t = absurd (true≢false (sym t))
within_ones (c ∷ cs) (m ∷ ms) zero e h t = absurd (omega arith)
within_ones (c ∷ cs) (m ∷ ms) (suc n) e h t =
    ⊎_elim (λ l. or_left (eqb c e) _ (and_parts (eqb m 1) (eqb c e) l).1) (λ r. or_right (eqb c e) _ (within_ones cs ms n e (omega arith) r))
    (or_cases (eqb m 1 && eqb c e) (chosen cs ms e) t)

whole : digits 12 4095 ≡ replicate 12 1
unfolding digits
whole = refl

within_whole : (cs ms : List ℕ) → length cs ≤ 12 → Within (chosen cs ms) (chosen_by cs 4095)
within_whole cs ms few e t = rw whole (within_ones cs ms 12 e few t)

-- a set within another, digit by digit
within_by : (cs : List ℕ) (a b k e : ℕ) → bit_and a b ≡ a → chosen cs (digits k a) e ≡ true → chosen cs (digits k b) e ≡ true
unfolding chosen digits
within_by [] a b k e in' t = t
within_by (c ∷ cs) a b zero e in' t = t
within_by (c ∷ cs) a b (suc k) e in' t =
    let step = and_step a b in
    let rest : bit_and (a / 2) (b / 2) ≡ a / 2 = omega arith in
    ⊎_elim (λ l. or_left (eqb (b % 2) 1 && eqb c e) _ (here (and_parts (eqb (a % 2) 1) (eqb c e) l) (omega arith))) (λ r. or_right (eqb (b % 2) 1 && eqb c e) _ (within_by cs (a / 2) (b / 2) k e rest r))
    (or_cases (eqb (a % 2) 1 && eqb c e) _ t)
  where
    here : (eqb (a % 2) 1 ≡ true) × (eqb c e ≡ true) → a % 2 ≤ b % 2 → (eqb (b % 2) 1 && eqb c e) ≡ true
    here both le = let one = eqb-true (a % 2) 1 both.0 in and_from (eqb (b % 2) 1) (eqb c e) (eq-eqb (b % 2) 1 (omega arith)) both.1

-- a set said otherwise
shown_as : (p q : Plant) (a b : ℕ → Bool) → ((e : ℕ) → a e ≡ b e) → Shown p a q → Shown p b q
shown_as p q a b same s = record {
  arrows = s.arrows;
  faults = s.faults;
  others = λ e h. s.others e (same e ∙ h);
  something = λ e h. s.something e (same e ∙ h);
  own = λ e d h. s.own e d (same e ∙ h);
}

module _ (p : Plant) (cs ps : List ℕ) where
  -- no set is tried before the first
  pub best_none : (b : Best) → Sound p cs ps b → BestOf p cs ps 0 b
  best_none b sound = record { sound = sound; least = λ s h. absurd (omega arith) }

  -- one set more
  pub best_more : (i : ℕ) (old next : Known) → BestOf p cs ps i old.best → Better p cs ps old i next → BestOf p cs ps (i + 1) next.best
  best_more i old next so_far better = record { sound = better.sound; least = least }
    where
      least : (s : ℕ) → s < i + 1 → NoLess p cs ps next.best s
      least s h q shown out =
          ⊎_elim (λ lt. omega (arith, so_far.least s lt q shown out, better.below))
          (λ le. let at : i ≡ s = omega arith in subst (NoLess p cs ps next.best) at better.here q shown out) (cases_lt s i)

module _ (s : Selection) where
  abbrev p : Plant
  p = plant_of s

  abbrev cs : List ℕ
  cs = s.candidates.now

  abbrev ps : List ℕ
  ps = s.prices.now

  fit : Fit s.numbers.states s.numbers.arrows.now s.numbers.events.now s.candidates.now s.prices.now
  fit = fitted s

  some_shown : (set : ℕ → Bool) → (q : Plant) × Shown p set q
  unfolding plant_in
  some_shown set = shown_some p set 255 (sign_small fit.valid)

  -- if the whole set does not do, none does
  pub none_does : Never p (chosen_by cs 4095) → NoSet p cs
  unfolding ComesOut
  none_does never ms q shown out =
      let all = some_shown (chosen_by cs 4095) in
      never all.0 all.1 (out.0, shown_more p q all.0 (chosen cs ms) (chosen_by cs 4095) out.0 (within_whole cs ms fit.few) shown all.1 out.1)

  -- a set within one that does not do does not do
  pub never_within : (a b : ℕ) → bit_and a b ≡ a → Never p (chosen_by cs b) → Never p (chosen_by cs a)
  unfolding ComesOut
  never_within a b in' never q shown out =
      let all = some_shown (chosen_by cs b) in
      never all.0 all.1 (out.0, shown_more p q all.0 (chosen_by cs a) (chosen_by cs b) out.0 (λ e. within_by cs a b 12 e in') shown all.1 out.1)

  pub hopeless : (failed : List ℕ) → Failing p cs failed → (a : ℕ) → (k : ℕ) × (k < length failed) × HoldsAt (λ w. bit_and a w ≡ a) failed k → Never p (chosen_by cs a)
  hopeless failed failing a within = never_within a (get_or failed within.0 0) (within.2 0) (failing within.0 0 within.1)

  -- the best of all numbers is a cheapest set
  pub cheapest : (b : Best) → BestOf p cs ps (2 ^ length cs) b → CheapestSet p cs ps (digits (length cs) b.set) b.sum
  cheapest b best = record {
    long = length_digits (length cs) b.set;
    ones = digits_ones (length cs) b.set;
    costs = best.sound.costs ∙ enough_cost ps b.set 12 (length cs) (omega (arith, fit.few, fit.priced)) (omega (arith, fit.priced));
    some = some_shown (chosen cs (digits (length cs) b.set));
    does = λ q shown. best.sound.does q (shown_as p q _ _ (λ e. enough_chosen cs b.set (length cs) 12 e (omega arith) fit.few) shown);
    least = least;
  }
    where
      least : (other : List ℕ) (q : Plant) → Shown p (chosen cs other) q → ComesOut q → b.sum ≤ cost ps other
      least other q shown out =
          let set = code (length cs) other in
          let same = code_cost ps other (length cs) 12 (omega (arith, fit.priced)) (omega (arith, fit.few, fit.priced)) in
          let le : b.sum ≤ cost_by ps set = best.least set (code_small (length cs) other) q (shown_as p q _ _ (λ e. sym (code_chosen cs other (length cs) 12 e (omega arith) fit.few)) shown) out in
          rw same at le
