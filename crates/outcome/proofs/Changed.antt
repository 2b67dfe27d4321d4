-- A plant whose events are given other signs is a plant still. Assumes nothing.
use Rattle.std.proofs.Common.{◌≡◌, ℕ, zero, suc, ◌+◌, ◌*◌, ◌/◌, ◌≤◌, List, length, get_or, replicate, None, refl, ⊎_elim, arith}
use Rattle.std.proofs.ByRecursion.{All-weaker}
use Rattle.std.proofs.lemmas.List.{get_or_past}
use Rattle.std.proofs.lemmas.Bool.{cases_lt}
use Rattle.plant.specs.declared.parts.Arrow.{Arrow}
use Rattle.plant.specs.Numbers.{arrows_in}
use Rattle.plant.specs.Refusals.{refusal}
use Rattle.plant.specs.Validity.{Fits, Valid}
use Rattle.plant.proofs.Valid.{refused_or_valid}

-- zeros, and past them there are zeros too
pub zeros : (n k : ℕ) → get_or {A = ℕ} (replicate n 0) k 0 ≡ 0
zeros zero k = refl
zeros (suc n) zero = refl
zeros (suc n) (suc k) = zeros n k

-- signs and marks of events that are not there are 0
module _ {n : ℕ} {xs es : List ℕ} (v : Valid n xs es) where
  pub sign_small : (e : ℕ) → get_or es (2 * e) 0 ≤ 255
  sign_small e =
      ⊎_elim (λ lt. v.signs e lt) (λ le. let z = get_or_past es (2 * e) 0 (omega (arith, v.whole_events)) in omega arith) (cases_lt e (length es / 2))

  mark_small : (e : ℕ) → get_or es (2 * e + 1) 0 ≤ 1
  mark_small e =
      ⊎_elim (λ lt. v.marks e lt) (λ le. let z = get_or_past es (2 * e + 1) 0 (omega (arith, v.whole_events)) in omega arith) (cases_lt e (length es / 2))

module _ (n : ℕ) (xs es events : List ℕ) (v : Valid n xs es) (size : length events ≡ 128) (signs : (e : ℕ) → get_or events (2 * e) 0 ≤ 255) (marks : (e : ℕ) → get_or events (2 * e + 1) 0 ≡ get_or es (2 * e + 1) 0) where
  arrow_fits : (a : Arrow) → Fits n (length es / 2) a → Fits n (length events / 2) a
  arrow_fits a f = record { from = f.from; event = omega (arith, v.few_events, f.event); to = f.to }

  pub accepted : refusal n xs events ≡ None
  accepted = (refused_or_valid n xs events).1 (record {
    some_state = v.some_state;
    few_states = v.few_states;
    whole_events = omega arith;
    few_events = omega arith;
    signs = λ e h. signs e;
    marks = λ e h. omega (arith, marks e, mark_small v e);
    whole_arrows = v.whole_arrows;
    few_arrows = v.few_arrows;
    fits = All-weaker (Fits n (length es / 2)) (Fits n (length events / 2)) arrow_fits (arrows_in xs) v.fits;
  })
