use Rattle.predictability.proofs.Laying.{on_size, on_is}
use Rattle.predictability.proofs.rows.lay_on.Goals as goal
use Rattle.std.proofs.Common.{◌∙◌}

pub returns : goal.returns
returns c =
    let other = c.args.other.now in
    let room = c.args.room.now in
    record {
      later = c.go_on.new.row;
      on = c.go_on.ensures;
      many = c.go_on.auto.row ∙ on_size other room c.copy_from_slice.new.self c.args.events c.copy_from_slice.ensures.after c.requires.fits;
      is = on_is other room c.copy_from_slice.new.self c.args.events c.copy_from_slice.ensures.after c.go_on.new.row;
    }
