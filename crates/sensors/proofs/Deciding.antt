-- A plant with a set of candidates shown by the signs that were given, in place of any plant with it shown. Assumes nothing.
use Rattle.std.proofs.Common.{◌≡◌, ℕ, ◌+◌, ◌*◌, Bool, true, false, eqb, List, None, MatchBool, refl, ap, ◌∙◌, arith}
use Rattle.plant.specs.Numbers.{plant_in}
use Rattle.plant.specs.Plant.{ComesOut}
use Rattle.plant.specs.Refusals.{refusal}
use Rattle.plant.specs.Validity.{Valid}
use Rattle.outcome.proofs.Changed.{sign_small, accepted}
use Rattle.views.specs.Shown.{Shown}
use Rattle.views.proofs.Showing.{shown_more}
use Rattle.sensors.specs.Sets.{Does, Never}
use Rattle.sensors.specs.Signs.{Padded, Signed}

module _ (n : ℕ) (xs es room events : List ℕ) (set : ℕ → Bool) (v : Valid n xs es) (padded : Padded es room 128) (signed : Signed room set events) where
  pub signed_accepted : refusal n xs events ≡ None
  signed_accepted =
      accepted n xs es events v (signed.size ∙ padded.size_is) (signed.small (λ d. let z = padded.same (2 * d) in omega (arith, sign_small v d))) (λ e. signed.faults e ∙ padded.same (2 * e + 1))

  signed_shown : Shown (plant_in xs es) set (plant_in xs events)
  unfolding plant_in
  signed_shown = record {
    arrows = refl;
    faults = λ e. ap (λ (m : ℕ). eqb m 1) (signed.faults e ∙ padded.same (2 * e + 1));
    others = λ e out. signed.others e out ∙ padded.same (2 * e);
    something = signed.something;
    own = signed.own;
  }

  pub decided : (r : Bool) → MatchBool r (ComesOut (plant_in xs events)) (ComesOut (plant_in xs events) → ⊥) → MatchBool r (Does (plant_in xs es) set) (Never (plant_in xs es) set)
  unfolding ComesOut
  decided true out = λ q shown. (out.0, shown_more (plant_in xs es) (plant_in xs events) q set set out.0 (λ e h. h) signed_shown shown out.1)
  decided false not-out = λ q shown out. not-out (out.0, shown_more (plant_in xs es) q (plant_in xs events) set set out.0 (λ e h. h) shown signed_shown out.1)
