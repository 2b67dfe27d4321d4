use Rattle.sensors.proofs.Fitting.{refused_or_fit}
use Rattle.sensors.proofs.theorems.refused_or_fit.Goals as goal

pub returns : goal.returns
returns c = refused_or_fit
