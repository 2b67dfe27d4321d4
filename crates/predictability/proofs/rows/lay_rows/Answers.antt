use Rattle.std.proofs.Common.{◌+◌, length, arith}
use Rattle.predictability.proofs.Laying.{rows_are}
use Rattle.predictability.proofs.rows.lay_rows.Goals as goal

pub returns : goal.returns
returns c =
    let behind = c.lay_on.ensures in
    record {
      later = behind.later;
      on = behind.on;
      many = behind.many;
      is =
          rows_are c.args.run.now c.args.room.now c.copy_from_slice.new.self c.args.fault c.copy_from_slice.ensures.after (omega (arith, c.requires.fits)) (length c.args.other.now + c.args.events) c.args.other.now behind.later
          c.lay_on.new.room behind.is;
    }
