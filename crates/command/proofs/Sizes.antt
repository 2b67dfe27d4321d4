-- How large what was opened is. Assumes nothing.
use Rattle.std.proofs.Common.{◌≡◌, ℕ, List, ◌++◌, map, length, codes, decimal, sym, ap, ◌∙◌}
use Rattle.std.proofs.lemmas.List.{length-map}
use Rattle.drawing.specs.declared.shape.Arrow.{Arrow}
use Rattle.drawing.specs.declared.shape.Event.{Event}
use Rattle.drawing.specs.Drawn.{Drawn, drawn, kind}
use Rattle.sorts.specs.declared.kinds.Faults.{Faults}
use Rattle.command.specs.declared.valid.Opened.{Opened}
use Rattle.command.specs.Sizes.{size}
use Rattle.command.specs.Texts.{OpenedAs}

pub sized :
    {f : Faults} {d : Drawn} {o : Opened} {bytes : List ℕ} → OpenedAs f d o → (es : List Event) → map kind es ≡ (drawn o.drawing).kinds → (ys : List Arrow) → ys ≡ (drawn o.drawing).ways
    → bytes ≡ decimal o.states ++ (codes " states, " ++ (decimal (length es) ++ (codes " events, " ++ (decimal (length ys) ++ codes " arrows")))) → bytes ≡ size d
sized {f} {d} {o} {bytes} a es events ys arrows text =
    let m : length es ≡ length d.kinds = sym (length-map es kind) ∙ ap length (events ∙ ap (λ e. e.kinds) a.drawing) in
    let k : length ys ≡ length d.ways = ap length (arrows ∙ ap (λ e. e.ways) a.drawing) in
    text ∙ (λ j. decimal (a.states j) ++ (codes " states, " ++ (decimal (m j) ++ (codes " events, " ++ (decimal (k j) ++ codes " arrows")))))
