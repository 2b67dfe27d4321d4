use Rattle.std.proofs.Common.{map, take, string_bytes}
use Rattle.std.specs.List.{flat_map}
use Rattle.std.specs.Fmt.{IsPlainFormatter, HasWritten}
use Rattle.drawing.specs.Drawn.{kind}
use Rattle.picture.specs.Pictures.{edge_line}
use Rattle.picture.proofs.texts.PictureDisplay.fmt.Given as goal

abbrev pub invariant-loop-edge : goal.invariant-loop-edge
invariant-loop-edge g l =
    IsPlainFormatter {W = g.row.W.Denot} l.initial.f
    → HasWritten {W = g.row.W.Denot} g.W.Write.write_str_gives l.initial.f (flat_map (edge_line (map string_bytes l.self.names.now) (map kind l.self.events.now)) (take l.edge-index l.self.edges.now)) l.f
