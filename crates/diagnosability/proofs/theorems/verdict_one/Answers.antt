use Rattle.std.proofs.Common.{◌≡◌, ℕ, ⊎_elim, arith}
use Rattle.std.proofs.lemmas.Bool.{cases_lt}
use Rattle.plant.specs.Plant.{ComesOut}
use Rattle.plant.proofs.Judged.{not_both}
use Rattle.diagnosability.proofs.theorems.verdict_one.Goals as goal

pub returns : goal.returns
unfolding ComesOut
returns c refused p room room₁ lent lent₁ =
    record {
      one_number = λ k l x y.
          ⊎_elim (λ h. absurd (y.1.2 k h x.1.1)) (λ h. ⊎_elim (λ j. absurd (x.1.2 l j y.1.1)) (λ j. omega arith) (cases_lt l k)) (cases_lt k l);
      not_both = λ k l x y. not_both p _ _ _ _ y.1.s y.1.t (k, x.1.1) y.1.hides;
      one_rule = λ f g x y. cc;
      one_kind = λ v f x y. let z : ◌≡◌ {A = ℕ} 0 1 = cc in absurd (omega arith);
    }
