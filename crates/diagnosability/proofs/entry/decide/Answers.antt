use Rattle.diagnosability.proofs.entry.decide.Goals as goal

pub lay-requires : goal.lay-requires
lay-requires c =
    let k = c.in-Knot.ensures in
    record {
      knot = (k.row, k.column);
      room = c.requires;
      run = record { walk = k.first; some = k.marks };
      round = record { walk = k.round; some = k.some };
    }
