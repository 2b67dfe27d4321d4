use Rattle.std.proofs.Common.{ℕ, ◌≤◌, List, arith}
use Rattle.plant.specs.Plant.{Plant}
use Rattle.sensors.specs.Choice.{CheapestSet}
use Rattle.sensors.proofs.theorems.choice_one.Goals as goal

no_more : {p : Plant} {cs ps marks other : List ℕ} {sum least : ℕ} → CheapestSet p cs ps marks sum → CheapestSet p cs ps other least → sum ≤ least
no_more {other = other} a b = rw b.costs (a.least other b.some.0 b.some.1 (b.does b.some.0 b.some.1))

pub returns : goal.returns
returns c p cs ps =
    record {
      one_sum = λ marks other sum least a b. let up = no_more a b in let down = no_more b a in omega arith;
      not_both = λ marks sum a none. none marks a.some.0 a.some.1 (a.does a.some.0 a.some.1);
    }
