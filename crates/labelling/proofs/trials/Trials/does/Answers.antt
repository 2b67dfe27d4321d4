use Rattle.std.proofs.Common.{arith}
use Rattle.labelling.specs.Trials.{events_of, plant_of}
use Rattle.labelling.proofs.Fitting.{valid_of}
use Rattle.labelling.proofs.Relabelling.{accepted, decided}
use Rattle.labelling.proofs.Trying.{number_small, few_signs}
use Rattle.labelling.proofs.trials.Trials.does.Goals as goal

pub new-requires : goal.new-requires
new-requires c =
    let valid = valid_of c.args.self in
    let few = few_signs (plant_of c.args.self) (events_of c.args.self) c.args.row c.requires in
    accepted c.args.self.numbers.states c.args.self.numbers.arrows.now c.args.self.numbers.events.now c.args.row.labels c.relabel-events.result valid (omega arith)
    (λ e. let h = number_small (plant_of c.args.self) (events_of c.args.self) c.args.row c.requires e in omega (arith, valid.few_events)) c.relabel-events.ensures

pub returns : goal.returns
returns c =
    let valid = valid_of c.args.self in
    let few = few_signs (plant_of c.args.self) (events_of c.args.self) c.args.row c.requires in
    decided c.args.self.numbers.states c.args.self.numbers.arrows.now c.args.self.numbers.events.now c.args.row.labels c.relabel-events.result valid (omega arith)
    (λ e. let h = number_small (plant_of c.args.self) (events_of c.args.self) c.args.row c.requires e in omega (arith, valid.few_events)) c.relabel-events.ensures
    (events_of c.args.self) c.comes_out.result c.requires.past (rw (c.new.ensures.1, c.new.ensures.2) at c.comes_out.ensures)
