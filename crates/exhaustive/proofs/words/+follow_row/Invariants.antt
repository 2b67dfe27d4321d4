use Rattle.std.proofs.Common.{◌+◌}
use Rattle.std.specs.Option.{option_map_or}
use Rattle.exhaustive.proofs.words.+follow_row.Given as goal

abbrev pub decreases-follow_row : goal.decreases-follow_row
decreases-follow_row l = option_map_or (λ part. part.code + 1) l.parts.next 0
