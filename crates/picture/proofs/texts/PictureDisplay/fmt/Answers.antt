use Rattle.std.proofs.Common.{◌++◌, ap, codes, map, refl, take, true, string_bytes}
use Rattle.std.specs.List.{flat_map}
use Rattle.std.proofs.Output.{has_written_append, has_written_of_eq, writes_in_calls_nil}
use Rattle.drawing.specs.Drawn.{kind}
use Rattle.picture.specs.Pictures.{edge_line, head_lines}
use Rattle.picture.proofs.Lines.{one_more, all_of}
use Rattle.picture.proofs.texts.PictureDisplay.fmt.Goals as goal

pub loop-edge-init : goal.loop-edge-init
loop-edge-init g c = λ plain. record { plain = plain; wrote = writes_in_calls_nil g.W.Write.write_str_gives _ }

pub loop-edge-preserved : goal.loop-edge-preserved
loop-edge-preserved g c =
    λ plain.
    let f = edge_line (map string_bytes c.args.self.now.names.now) (map kind c.args.self.now.events.now) in
    let es = c.args.self.now.edges.now in
    let i = c.loop-edge.edge-index in
    let p = c.loop-edge.invariant plain in
    has_written_of_eq g.W.Write.write_str_gives _ _ _ _ (one_more f es i _ c.loop-edge-test.true)
    (has_written_append g.W.Write.write_str_gives _ (flat_map f (take i es)) _ _ _ p (c.in_ok-write-2.ensures.writes p.plain (refl {a = true})))

pub returns-clause-writes : goal.returns-clause-writes
returns-clause-writes g c =
    λ plain ok.
    let f = edge_line (map string_bytes c.args.self.now.names.now) (map kind c.args.self.now.events.now) in
    let es = c.args.self.now.edges.now in
    let i = c.loop-edge.edge-index in
    let head = head_lines c.args.self.now.title.now in
    let h = c.in_ok-write.ensures.writes plain (refl {a = true}) in
    let m = c.loop-edge.invariant h.plain in
    let both = has_written_append g.W.Write.write_str_gives _ head _ (flat_map f (take i es)) _ h m in
    has_written_of_eq g.W.Write.write_str_gives _ _ _ _ (ap (λ b. (head ++ b) ++ codes "}\n") (all_of f es i c.loop-edge-test.false))
    (has_written_append g.W.Write.write_str_gives _ (head ++ flat_map f (take i es)) _ (codes "}\n") _ both (c.write-2.ensures.writes m.plain ok))
