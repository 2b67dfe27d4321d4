use Rattle.picture.proofs.Lines.{arrows_kept}
use Rattle.picture.proofs.runs.mark_step.Goals as goal

pub returns : goal.returns
returns c = arrows_kept c.args.edges.now c.in-Some.i _ c.with.result
