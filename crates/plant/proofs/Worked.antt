-- What is judged of the worked plants. Assumes nothing.
use Rattle.std.proofs.Common.{◌≡◌, ℕ, ◌-◌, Bool, true, ◌&&◌, ◌||◌, eqb, leb, [], ◌∷◌, refl, arith}
use Rattle.graph.specs.Member.{here, there}
use Rattle.plant.specs.Plant.{Run, stands, goes, seen, faulty, May, ComesOutIn}
use Rattle.plant.specs.Numbers.{arrows_in, plant_in}
use Rattle.plant.specs.Worked.{told, ToldPlant, HiddenPlant}
use Rattle.plant.proofs.States.{below}
use Rattle.plant.proofs.Table.{all_of, implies, fits, lefts_fit, rights_fit, boths_fit, low_rank, ends_below, checks, table_out}

-- the run without fault stays in 0; behind the fault the other is in 1, with one event to come unnoticed, or in 2
abbrev told_before : ℕ × ℕ → Bool
told_before x = eqb x.1 0 && leb x.0 2

abbrev told_after : ℕ × ℕ → Bool
told_after x = eqb x.1 0 && (eqb x.0 1 || eqb x.0 2)

abbrev told_rank : ℕ × ℕ → ℕ
told_rank x = 2 - x.0

told-checks : checks told 3 told_before told_after told_rank 2 ≡ true
unfolding plant_in arrows_in checks lefts_fit rights_fit boths_fit low_rank ends_below fits implies all_of below
told-checks = refl

pub told_out : ToldPlant
unfolding plant_in arrows_in ComesOutIn May seen faulty
told_out = (table_out told 3 told_before told_after told_rank 2 told-checks, λ out. out (1 ∷ []) (0 ∷ []) 2 late refl (omega arith) (1 ∷ [], 0, fine, refl, refl))
  where
    first : Run told 0 (0 ∷ []) 1
    first = goes [] 0 0 1 stands (here _)

    late : Run told 0 (1 ∷ (0 ∷ [])) 2
    late = goes (0 ∷ []) 1 1 2 first (there _ _ (here _))

    fine : Run told 0 (1 ∷ []) 0
    fine = goes [] 0 1 0 stands (there _ _ (there _ _ (there _ _ (here _))))

pub hidden_hides : HiddenPlant
unfolding plant_in arrows_in seen faulty
hidden_hides = record {
  run = goes [] 0 0 1 stands (here _);
  bad = refl;
  run_2 = stands;
  fine = refl;
  same = refl;
  goes_round = goes [] 1 1 1 stands (there _ _ (here _));
  some = omega arith;
  goes_round_2 = goes [] 0 1 0 stands (there _ _ (there _ _ (here _)));
  fine_2 = refl;
  same_2 = refl;
}
