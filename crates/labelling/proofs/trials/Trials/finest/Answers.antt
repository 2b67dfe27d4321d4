use Rattle.std.proofs.Common.{refl, arith}
use Rattle.plant.specs.Numbers.{plant_in}
use Rattle.labelling.specs.Refused.{fault_in}
use Rattle.labelling.specs.Trials.{plant_of}
use Rattle.labelling.proofs.Trying.{few_signs, normal_none, own_none, finest_more}
use Rattle.labelling.proofs.trials.Trials.finest.Goals as goal

pub loop-event-init : goal.loop-event-init
loop-event-init c =
    (normal_none (plant_of c.args.self) c.nothing-row.result c.nothing-row.ensures.labels c.nothing-row.ensures.signs, own_none (plant_of c.args.self) c.nothing-row.result c.nothing-row.ensures.labels)

pub own-requires : goal.own-requires
own-requires c = record {
  there = omega (arith);
  few = omega (arith, few_signs (plant_of c.args.self) c.loop-event.event c.loop-event.row c.loop-event.invariant.0);
}

pub loop-event-preserved : goal.loop-event-preserved
unfolding plant_in
loop-event-preserved c =
    finest_more (plant_of c.args.self) c.loop-event.event c.own.result c.loop-event.row c.with-row.result (omega (arith, c.loop-event.invariant.0.size)) c.loop-event.invariant.0 c.with-row.ensures.labels c.with-row.ensures.signs
    (fault_in c.args.self.numbers.events.now c.loop-event.event) refl c.own.ensures c.loop-event.invariant.1
