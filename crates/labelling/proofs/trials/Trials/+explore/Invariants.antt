use Rattle.std.proofs.Common.{◌-◌}
use Rattle.labelling.specs.Trials.{Improving, events_of, plant_of}
use Rattle.labelling.proofs.trials.Trials.+explore.Given as goal

abbrev pub decreases-explore : goal.decreases-explore
decreases-explore l = events_of l.self - l.event

abbrev pub invariant-loop-label : goal.invariant-loop-label
invariant-loop-label l = Improving (plant_of l.self) (events_of l.self) l.event l.label l.row l.initial.found l.found
