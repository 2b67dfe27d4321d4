use Rattle.foretelling.proofs.Lasting.{settles}
use Rattle.foretelling.proofs.settles.Goals as goal

pub returns : goal.returns
returns c = settles
