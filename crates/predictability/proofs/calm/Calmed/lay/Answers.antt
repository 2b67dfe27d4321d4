use Rattle.std.proofs.Common.{arith}
use Rattle.predictability.proofs.Laying.{laid_missed}
use Rattle.predictability.proofs.calm.Calmed.lay.Goals as goal

pub returns : goal.returns
returns c =
    laid_missed c.args.self.plant c.args.ahead c.args.events c.args.pair c.runs-rows.result c.runs-rows.new.room c.args.room.now (omega arith) c.requires.events c.runs-rows.ensures c.requires.room c.strike-fault.result c.lay_rows.new.room
    c.strike-fault.ensures (omega arith) c.lay_rows.ensures
