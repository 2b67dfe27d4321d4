use Rattle.std.proofs.Common.{replicate}
use Rattle.outcome.proofs.Changed.{zeros}
use Rattle.sensors.proofs.Padding.{padded}
use Rattle.sensors.proofs.signs.padded.Goals as goal

pub returns : goal.returns
returns c = padded c.args.numbers.now (replicate 128 0) c.requires (zeros 128) c.copy_from_slice.new.self c.copy_from_slice.ensures.after
