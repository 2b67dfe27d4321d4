-- Two faults of two sorts that look alike. Assumes nothing.
use Rattle.std.proofs.Common.{◌≡◌, ℕ, Bool, true, false, ◌&&◌, eqb, [], refl, arith}
use Rattle.graph.specs.Member.{here, there}
use Rattle.plant.specs.Plant.{stands, goes, seen, faulty}
use Rattle.plant.specs.Numbers.{arrows_in}
use Rattle.plant.proofs.States.{below}
use Rattle.plant.proofs.Table.{all_of, implies, fits, lefts_fit, rights_fit, boths_fit, low_rank, ends_below, checks, table_out}
use Rattle.sorts.specs.declared.kinds.Faults.TheVariants.{Any}
use Rattle.sorts.specs.Sorts.{plant_of}
use Rattle.sorts.specs.Theorems.{ConverseFails, two_loops, two_sorts}

-- with all faults left out nothing can happen, so no pair is met behind a fault
abbrev start : ℕ × ℕ → Bool
start x = eqb x.0 0 && eqb x.1 0

abbrev never : ℕ × ℕ → Bool
never x = false

looped_checks : checks (plant_of Any two_loops two_sorts) 1 start never (λ x. 0) 0 ≡ true
unfolding plant_of arrows_in checks lefts_fit rights_fit boths_fit low_rank ends_below fits implies all_of below
looped_checks = refl

pub converse_fails : ConverseFails
unfolding plant_of arrows_in seen faulty
converse_fails = record {
  together = table_out (plant_of Any two_loops two_sorts) 1 start never (λ x. 0) 0 looped_checks;
  first = record {
    run = goes [] 0 0 0 stands (here _);
    bad = refl;
    run_2 = goes [] 0 1 0 stands (there _ _ (here _));
    fine = refl;
    same = refl;
    goes_round = goes [] 0 0 0 stands (here _);
    some = omega arith;
    goes_round_2 = goes [] 0 1 0 stands (there _ _ (here _));
    fine_2 = refl;
    same_2 = refl;
  };
  second = record {
    run = goes [] 0 1 0 stands (there _ _ (here _));
    bad = refl;
    run_2 = goes [] 0 0 0 stands (here _);
    fine = refl;
    same = refl;
    goes_round = goes [] 0 1 0 stands (there _ _ (here _));
    some = omega arith;
    goes_round_2 = goes [] 0 0 0 stands (here _);
    fine_2 = refl;
    same_2 = refl;
  };
}
