use Rattle.std.proofs.Common.{map, drop, string_bytes}
use Rattle.plant.specs.Model.{model}
use Rattle.command.proofs.Heard.{LinesSoFar}
use Rattle.command.proofs.following.lines.Given as goal

abbrev pub invariant-loop-word : goal.invariant-loop-word
invariant-loop-word l = LinesSoFar (model l.plant) l.listener (drop l.word-index (map string_bytes l.words)) (map string_bytes l.words) (string_bytes l.out)
