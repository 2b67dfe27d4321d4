use Rattle.std.proofs.Common.{arith}
use Rattle.diagnosability.proofs.Laying.{all_laid}
use Rattle.diagnosability.proofs.rows.lay.Goals as goal

pub returns : goal.returns
returns c =
    all_laid _ c.args.plant.states c.args.knot c.found-runs.result c.found-rounds.result c.args.room.now c.found-runs.new.room c.found-rounds.new.room c.requires.room (omega arith) c.found-runs.ensures (omega arith) c.found-rounds.ensures
