use Rattle.std.proofs.Common.{arith}
use Rattle.labelling.specs.Trials.{events_of, plant_of}
use Rattle.labelling.proofs.Fitting.{valid_of}
use Rattle.labelling.proofs.Trying.{none_does, normal_none, fewest}
use Rattle.labelling.proofs.trials.Trials.fewest.Goals as goal

pub returns-then-not-does : goal.returns-then-not-does
returns-then-not-does c = none_does (plant_of c.args.self) (events_of c.args.self) c.finest-finest.result c.finest-finest.ensures.normal c.finest-finest.ensures.own c.if-not-does.ensures

pub explore-requires : goal.explore-requires
explore-requires c = record {
  there = omega arith;
  normal = normal_none (plant_of c.args.self) c.nothing.result c.nothing.ensures.labels c.nothing.ensures.signs;
  sound = record { normal = c.finest-finest.ensures.normal; does = c.if-not-does.ensures };
}

pub returns : goal.returns
returns c =
    fewest (plant_of c.args.self) (events_of c.args.self) c.nothing.result c.finest-finest.result c.explore.result c.nothing.ensures.signs (omega (arith, (valid_of c.args.self).few_events)) c.explore.ensures
