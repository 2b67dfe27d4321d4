use Rattle.std.proofs.Common.{length}
use Rattle.predictability.specs.Calmed.{Leaving}
use Rattle.predictability.proofs.calm.harmless_arrows.Given as goal

abbrev pub invariant-loop-step : goal.invariant-loop-step
invariant-loop-step l = Leaving l.plant (length l.yielded) l.arrows.items
