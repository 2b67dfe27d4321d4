use Rattle.sensors.specs.Sets.{BestOf, Failing, plant_of}
use Rattle.sensors.proofs.selection.Selection.cheapest.Given as goal

abbrev pub invariant-loop-set : goal.invariant-loop-set
invariant-loop-set l = BestOf (plant_of l.self) l.self.candidates.now l.self.prices.now l.set l.known.best × Failing (plant_of l.self) l.self.candidates.now l.known.failed.items
