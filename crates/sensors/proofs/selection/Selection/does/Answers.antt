use Rattle.std.proofs.Common.{ℕ, List, MatchBool, subst, arith}
use Rattle.sensors.specs.Candidates.{chosen}
use Rattle.sensors.specs.Sets.{Does, Never, plant_of}
use Rattle.sensors.proofs.Deciding.{signed_accepted, decided}
use Rattle.sensors.proofs.Fitting.{fitted}
use Rattle.sensors.proofs.selection.Selection.does.Goals as goal

pub padded-events-requires : goal.padded-events-requires
padded-events-requires c = let valid = (fitted c.args.self).valid in omega (arith, valid.whole_events, valid.few_events)

pub show-requires : goal.show-requires
show-requires c =
    let fit = fitted c.args.self in
    record {
      size = c.padded-events.ensures.size_is;
      there = λ i h. omega (arith, fit.event i h, fit.valid.few_events);
      marked = omega (arith, fit.few);
    }

pub new-requires : goal.new-requires
new-requires c =
    signed_accepted c.args.self.numbers.states c.args.self.numbers.arrows.now c.args.self.numbers.events.now c.padded-events.result c.show.new.events (chosen c.args.self.candidates.now c.marks-marks.result) (fitted c.args.self).valid
    c.padded-events.ensures c.show.ensures

pub returns : goal.returns
returns c =
    subst (λ (ms : List ℕ). MatchBool c.comes_out.result (Does (plant_of c.args.self) (chosen c.args.self.candidates.now ms)) (Never (plant_of c.args.self) (chosen c.args.self.candidates.now ms))) c.marks-marks.ensures
    (decided c.args.self.numbers.states c.args.self.numbers.arrows.now c.args.self.numbers.events.now c.padded-events.result c.show.new.events (chosen c.args.self.candidates.now c.marks-marks.result) (fitted c.args.self).valid
    c.padded-events.ensures c.show.ensures c.comes_out.result (rw (c.new.ensures.1, c.new.ensures.2) at c.comes_out.ensures))
