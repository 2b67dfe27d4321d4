use Rattle.std.proofs.Common.{ℕ, ◌+◌, ◌<◌, ◌≤◌, refl, subst, arith}
use Rattle.plant.specs.Numbers.{plant_in}
use Rattle.labelling.specs.Refused.{fault_in}
use Rattle.labelling.specs.Trials.{events_of, plant_of}
use Rattle.labelling.proofs.Trying.{few_signs, choice_more, improved_by_none, improved_does, improving_more, improving_all}
use Rattle.labelling.proofs.trials.Trials.+explore.Goals as goal

pub returns-then-row-best : goal.returns-then-row-best
returns-then-row-best t c = improved_by_none (plant_of c.args.self) (events_of c.args.self) c.args.event c.args.row c.args.best c.requires.sound c.if-row-best.true

pub returns-then-does : goal.returns-then-does
returns-then-does t c =
    simp c.if-event-self.true (improved_does (plant_of c.args.self) (events_of c.args.self) c.args.row c.args.best (simp c.if-event-self.true at c.requires.normal) (omega arith) c.if-does.ensures)

pub own-label-end-requires-clause-few : goal.own-label-end-requires-clause-few
own-label-end-requires-clause-few t c = omega (arith, few_signs (plant_of c.args.self) c.args.event c.args.row c.requires.normal)

pub explore-found-requires : goal.explore-found-requires
unfolding plant_in
explore-found-requires t c =
    let next = choice_more (plant_of c.args.self) c.args.event c.loop-label.label c.args.row c.with.result (omega arith) c.requires.normal c.with.ensures.labels c.with.ensures.signs
    (fault_in c.args.self.numbers.events.now c.args.event) refl (subst (λ (k : ℕ). c.loop-label.label ≤ k) c.own-label-end.ensures c.loop-label-test.true) in
    (omega arith, (omega arith, (next, c.loop-label.invariant.sound)))

pub loop-label-preserved : goal.loop-label-preserved
loop-label-preserved t c =
    improving_more (plant_of c.args.self) (events_of c.args.self) c.args.event c.loop-label.label c.args.row c.with.result c.args.best c.loop-label.found c.explore-found.result
    (omega arith) (omega arith) c.requires.normal c.with.ensures.labels c.with.ensures.signs c.loop-label.invariant c.explore-found.ensures

pub returns-else-event-self-2 : goal.returns-else-event-self-2
unfolding plant_in
returns-else-event-self-2 t c =
    let last : c.own-label-end.result < c.loop-label.label + 1 = omega arith in
    improving_all (plant_of c.args.self) (events_of c.args.self) c.args.event (c.loop-label.label + 1) c.args.row c.args.best c.explore-found.result
    (fault_in c.args.self.numbers.events.now c.args.event) (omega arith) refl (subst (λ (k : ℕ). k < c.loop-label.label + 1) c.own-label-end.ensures last)
    (improving_more (plant_of c.args.self) (events_of c.args.self) c.args.event c.loop-label.label c.args.row c.with.result c.args.best c.loop-label.found c.explore-found.result
    (omega arith) (omega arith) c.requires.normal c.with.ensures.labels c.with.ensures.signs c.loop-label.invariant c.explore-found.ensures)
