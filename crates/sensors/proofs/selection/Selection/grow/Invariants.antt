use Rattle.sensors.specs.Sets.{Never, chosen_by, plant_of}
use Rattle.sensors.proofs.selection.Selection.grow.Given as goal

abbrev pub invariant-loop-i : goal.invariant-loop-i
invariant-loop-i l = Never (plant_of l.self) (chosen_by l.self.candidates.now l.all)
