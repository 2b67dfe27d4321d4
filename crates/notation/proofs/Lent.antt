-- A drawing's parts as they are lent. Assumes nothing.
use Rattle.std.proofs.Common.{◌≡◌, List, map, length, string_bytes, String, sym, ap, ◌∙◌}
use Rattle.std.proofs.lemmas.List.{length-map}
use Rattle.drawing.specs.declared.finished.Drawing.{Drawing}
use Rattle.drawing.specs.declared.shape.Arrow.{Arrow}
use Rattle.drawing.specs.Drawn.{drawn}
use Rattle.drawing.specs.Fine.{GoBy}

module _ {Z : Type 0} (d : Drawing) (ns : List (String Z)) (names : map string_bytes ns ≡ (drawn d).labels) where
  as_many : length ns ≡ length (drawn d).labels
  as_many = sym (length-map ns string_bytes) ∙ ap length names

  pub lent_arrows : (ys : List Arrow) → ys ≡ (drawn d).ways → GoBy (length ns) ys
  lent_arrows ys arrows = rw (as_many, arrows) d.ways
