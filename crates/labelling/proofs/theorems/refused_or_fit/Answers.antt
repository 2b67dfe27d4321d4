use Rattle.labelling.proofs.Fitting.{refused_or_fit}
use Rattle.labelling.proofs.theorems.refused_or_fit.Goals as goal

pub returns : goal.returns
returns c = refused_or_fit
