use Rattle.std.proofs.Common.{◌≡◌, length, drop}
use Rattle.drawing.specs.Drafted.{drafted}
use Rattle.drawing.specs.Lines.{lines}
use Rattle.drawing.specs.Reads.{read_from, drafting}
use Rattle.drawing.proofs.reads.read.Given as goal

abbrev pub invariant-loop-number : goal.invariant-loop-number
invariant-loop-number l = read_from (length l.yielded) (drafted l.draft) (drop (length l.yielded) (lines l.text)) ≡ drafting l.text
