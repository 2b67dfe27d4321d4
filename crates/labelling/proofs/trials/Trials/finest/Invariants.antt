use Rattle.labelling.specs.Trials.{Normal, Own, plant_of}
use Rattle.labelling.proofs.trials.Trials.finest.Given as goal

abbrev pub invariant-loop-event : goal.invariant-loop-event
invariant-loop-event l = Normal (plant_of l.self) l.event l.row × Own (plant_of l.self) l.event l.row
