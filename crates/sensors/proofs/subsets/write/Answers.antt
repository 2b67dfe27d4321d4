use Rattle.std.proofs.Common.{length, arith}
use Rattle.sensors.proofs.Counting.{digits_more, digits_all}
use Rattle.sensors.proofs.subsets.write.Goals as goal

pub loop-mark-preserved : goal.loop-mark-preserved
loop-mark-preserved c =
    digits_more c.loop-mark.marks c.loop-mark.mark-index (length c.args.marks.now) c.args.set c.loop-mark.rest (omega arith) c.loop-mark.auto.marks c.loop-mark.invariant

pub returns : goal.returns
returns c =
    digits_all c.loop-mark.marks c.loop-mark.mark-index (length c.args.marks.now) c.args.set c.loop-mark.rest c.loop-mark-test.false c.loop-mark.auto.marks c.loop-mark.invariant
