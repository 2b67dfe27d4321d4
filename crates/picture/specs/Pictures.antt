-- A plant as a text for Graphviz. These are definitions and assume nothing.
use Rattle.std.specs.Prelude.{ℕ, Bool, true, false, cond, List, [], ◌++◌, codes, decimal, ◌==◌, slice_index_or}
use Rattle.std.specs.List.{flat_map}
use Rattle.drawing.specs.Drawn.{Kind}
use Rattle.drawing.specs.declared.shape.Arrow.{Arrow}
use Rattle.picture.specs.declared.edges.Edge.{Edge}
use Rattle.picture.specs.declared.edges.Tint.{Tint}
use Rattle.picture.specs.declared.edges.Tint.TheVariants.{Plain, First, Second, Both}

abbrev pub arrow_of : Edge → Arrow
arrow_of e = e.arrow

-- the event's name, and the sign that it shows
abbrev pub label : List ℕ → (sign : ℕ) → List ℕ
label w sign = cond (sign == 0) w (w ++ (codes " / " ++ decimal sign))

-- faults and what shows nothing are told apart by the line
abbrev pub style : (silent fault : Bool) → List ℕ
style false false = codes "solid"
style true false = codes "dotted"
style false true = codes "bold"
style true true = codes "dashed"

-- the run with a fault is red, the run without is blue
abbrev pub colour : Tint → List ℕ
colour Plain = codes "black"
colour First = codes "red"
colour Second = codes "blue"
colour Both = codes "red:blue"

abbrev pub no_kind : Kind
no_kind = record { sign = 0; fault = false }

abbrev pub edge_text : Edge → List ℕ → Kind → List ℕ
edge_text e w k =
    codes "  " ++ (decimal e.arrow.«from» ++ (codes " -> " ++ (decimal e.arrow.to ++ (codes " [label=\"" ++ (label w k.sign ++ (codes "\", style=" ++ (style (k.sign == 0) k.fault ++ (codes ", color=\"" ++ (colour e.tint ++ codes "\"];\n")))))))))

abbrev pub edge_line : List (List ℕ) → List Kind → Edge → List ℕ
edge_line ws ks e = edge_text e (slice_index_or ws e.arrow.event []) (slice_index_or ks e.arrow.event no_kind)

abbrev pub head_lines : (title : List ℕ) → List ℕ
head_lines title = codes "digraph plant {\n  rankdir=LR;\n  label=\"" ++ (title ++ codes "\";\n  node [shape=circle];\n  start [shape=point];\n  start -> 0;\n")

-- a title, the first state marked by a point, and a line for each arrow
abbrev pub picture : List (List ℕ) → List Kind → List Edge → (title : List ℕ) → List ℕ
picture ws ks es title = (head_lines title ++ flat_map (edge_line ws ks) es) ++ codes "}\n"
