use Rattle.std.proofs.Common.{◌≡◌, ℕ, true, false, List, [], ◌∷◌, length, refl, true≢false, arith}
use mathlib.Core.Bool.{false≢true}
use Rattle.graph.specs.Member.{here, there}
use Rattle.plant.specs.Plant.{stands, goes, seen, faulty}
use Rattle.plant.specs.Numbers.{arrows_in, plant_in}
use Rattle.foretelling.specs.Worked.{loop}
use Rattle.foretelling.proofs.worked_foretelling.Goals as goal

-- where each event is a fault, one event is not without
one_bad : (es : List ℕ) → length es ≡ 1 → faulty (loop true) es ≡ false → ⊥
unfolding faulty
one_bad [] e f = absurd (omega arith)
one_bad (x ∷ es) e f = true≢false f

all_fine : (es : List ℕ) → faulty (loop false) es ≡ true → ⊥
unfolding faulty
all_fine [] f = false≢true f
all_fine (x ∷ es) f = all_fine es f

pub returns : goal.returns
unfolding plant_in arrows_in seen faulty
returns c =
    record {
      bound = λ es s r fine fault k. record { early = es; late = []; whole = refl; alarm = λ fs t q fine_2 same l. one_bad l.later l.many l.on.fine };
      calm = λ es s r fine fault k. absurd (all_fine fault k.bad);
      missed =
          record {
            s = 0;
            t = 0;
            runs = record { run = stands; fine = refl; run_2 = stands; fine_2 = refl; same = refl };
            strikes = record { end = 1; run = goes [] 0 0 1 stands (here _); one = refl; bad = refl };
            goes_on = record { end = 0; run = goes [] 0 1 0 stands (there _ _ (there _ _ (here _))); fine = refl };
          };
    }
