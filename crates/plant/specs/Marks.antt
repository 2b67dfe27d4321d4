-- Which events are looked for. These are definitions and assume nothing.
use Rattle.std.specs.Prelude.{Bool, true}
use Rattle.plant.specs.declared.parts.Mark.{Mark}
use Rattle.plant.specs.declared.parts.Mark.TheVariants.{Fault, Any}
use Rattle.plant.specs.declared.parts.Step.{Step}

-- whether the step's event is marked
abbrev pub marks_step : Mark → Step → Bool
marks_step Fault a = a.fault
marks_step Any a = true
