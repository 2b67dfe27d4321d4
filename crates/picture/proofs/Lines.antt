-- Edges and their lines. Assumes nothing.
use Rattle.std.proofs.Common.{◌≡◌, ℕ, zero, suc, ◌+◌, ◌<◌, ◌≤◌, List, [], ◌∷◌, ◌++◌, map, length, slice_index_or, slice_set, take, sym, refl, ap, ◌∙◌, append_assoc, append-nil}
use Rattle.std.specs.List.{flat_map}
use Rattle.std.proofs.lemmas.List.{take_more, take_all}
use Rattle.drawing.specs.declared.shape.Arrow.{Arrow}
use Rattle.picture.specs.declared.edges.Edge.{Edge}
use Rattle.picture.specs.declared.edges.Tint.{Tint}
use Rattle.picture.specs.Pictures.{arrow_of}

-- a tint changes no arrow
pub arrows_kept : (es : List Edge) (i : ℕ) (d : Edge) (t : Tint) → map arrow_of (slice_set es i (record { arrow = (slice_index_or es i d).arrow; tint = t })) ≡ map arrow_of es
arrows_kept [] i d t = refl
arrows_kept (e ∷ es) zero d t = refl
arrows_kept (e ∷ es) (suc i) d t = ap (λ l. e.arrow ∷ l) (arrows_kept es i d t)

-- edges made of arrows are of these arrows
pub arrows_made : (t : Tint) (ys : List Arrow) → map arrow_of (map (λ a. record { arrow = a; tint = t }) ys) ≡ ys
arrows_made t [] = refl
arrows_made t (y ∷ ys) = ap (λ l. y ∷ l) (arrows_made t ys)

module _ (f : Edge → List ℕ) where
  joined : (es : List Edge) (e : Edge) → flat_map f es ++ f e ≡ flat_map f (es ++ (e ∷ []))
  joined [] e = sym (append-nil (f e))
  joined (x ∷ es) e = append_assoc (f x) (flat_map f es) (f e) ∙ ap (λ l. f x ++ l) (joined es e)

  pub one_more : (es : List Edge) (i : ℕ) (d : Edge) → i < length es → flat_map f (take i es) ++ f (slice_index_or es i d) ≡ flat_map f (take (i + 1) es)
  one_more es i d lt = joined (take i es) (slice_index_or es i d) ∙ ap (flat_map f) (sym (take_more es i d lt))

  pub all_of : (es : List Edge) (i : ℕ) → length es ≤ i → flat_map f (take i es) ≡ flat_map f es
  all_of es i le = ap (flat_map f) (take_all i es le)
