-- The picture of what was opened. Assumes nothing.
use Rattle.std.proofs.Common.{◌≡◌, ℕ, List, map, ap, ◌∙◌}
use Rattle.drawing.specs.Drawn.{Drawn, Kind, drawn}
use Rattle.picture.specs.declared.edges.Edge.{Edge}
use Rattle.picture.specs.Pictures.{arrow_of, picture}
use Rattle.sorts.specs.declared.kinds.Faults.TheVariants.{Any}
use Rattle.command.specs.declared.valid.Opened.{Opened}
use Rattle.command.specs.Sizes.{Pictured}
use Rattle.command.specs.Texts.{Judged, OpenedAs, plant_of}

-- by the parts of what was opened, as they are lent
pub pictured :
    {d : Drawn} {o : Opened} {bytes : List ℕ} → OpenedAs Any d o → (title lent-title : List ℕ) (edges lent-edges : List Edge) (ws : List (List ℕ)) (ks : List Kind)
    → Judged d.labels (plant_of Any d) title → map arrow_of edges ≡ (drawn o.drawing).ways → ws ≡ (drawn o.drawing).labels → ks ≡ (drawn o.drawing).kinds
    → lent-title ≡ title → lent-edges ≡ edges → bytes ≡ picture ws ks lent-edges lent-title → Pictured d bytes
pictured {d} {o} {bytes} a title lent-title edges lent-edges ws ks j arrows names kinds same-title same_edges text =
    let labels : ws ≡ d.labels = names ∙ ap (λ e. e.labels) a.drawing in
    let kinds-are : ks ≡ d.kinds = kinds ∙ ap (λ e. e.kinds) a.drawing in
    record {
      title = title;
      edges = edges;
      judged = j;
      arrows = arrows ∙ ap (λ e. e.ways) a.drawing;
      text = text ∙ (λ k. picture (labels k) (kinds-are k) (same_edges k) (same-title k));
    }
