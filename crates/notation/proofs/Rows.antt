-- One event or arrow more. Assumes nothing.
use Rattle.std.proofs.Common.{◌≡◌, ℕ, ◌+◌, ◌<◌, ◌≤◌, List, [], ◌∷◌, ◌++◌, map, length, get_or, drop, string_bytes, String, sym, refl, ap, ◌∙◌, append_assoc, append-nil}
use Rattle.std.specs.List.{flat_map, zip}
use Rattle.std.proofs.lemmas.List.{flat_map_more, at_drop_more, at_drop_all, get_or-map}
use Rattle.drawing.specs.declared.shape.Arrow.{Arrow}
use Rattle.drawing.specs.declared.shape.Event.{Event}
use Rattle.drawing.specs.Drawn.{kind}
use Rattle.notation.specs.Written.{event_lines, all_events, arrow_text, arrow_line}

-- what is written, and then what is left
pub onward : (o b rest left all o₁ : List ℕ) → o ++ left ≡ all → left ≡ b ++ rest → o₁ ≡ o ++ b → o₁ ++ rest ≡ all
onward o b rest left all o₁ so_far next e = ap (λ l. l ++ rest) e ∙ append_assoc o b rest ∙ ap (λ l. o ++ l) (sym next) ∙ so_far

pub finished : (o left all : List ℕ) → o ++ left ≡ all → left ≡ [] → o ≡ all
finished o left all so_far none = sym (append-nil o) ∙ ap (λ l. o ++ l) (sym none) ∙ so_far

-- after o, the lines of xs, and then those of x
pub one_more : {X : Type 0} (f : X → List ℕ) (o o₁ o₂ : List ℕ) (xs : List X) (x : X) → o₁ ≡ o ++ flat_map f xs → o₂ ≡ o₁ ++ f x → o₂ ≡ o ++ flat_map f (xs ++ (x ∷ []))
one_more f o o₁ o₂ xs x so_far e = e ∙ ap (λ l. l ++ f x) so_far ∙ flat_map_more f o xs x

module _ {Z : Type 0} (ns : List (String Z)) where
  -- a name that is read by its number
  pub label_at : (i : ℕ) (x : String Z) → i < length ns → x ≡ get_or ns i x → string_bytes x ≡ get_or (map string_bytes ns) i []
  label_at i x lt is = ap string_bytes is ∙ sym (get_or-map string_bytes ns i x [] lt)

-- events side by side with their names
pub paired : {Z : Type 0} (ns : List (String Z)) (es : List Event) → flat_map (λ p. event_lines (string_bytes p.0) (kind p.1)) (zip ns es) ≡ all_events (map string_bytes ns) (map kind es)
paired [] es = refl
paired (n ∷ ns) [] = refl
paired (n ∷ ns) (e ∷ es) = ap (λ l. event_lines (string_bytes n) (kind e) ++ l) (paired ns es)

module _ (ls : List (List ℕ)) (ys : List Arrow) (i : ℕ) where
  pub arrows_more : (d : Arrow) (w : List ℕ) → i < length ys → w ≡ get_or ls (get_or ys i d).event [] → flat_map (arrow_line ls) (drop i ys) ≡ arrow_text (get_or ys i d) w ++ flat_map (arrow_line ls) (drop (i + 1) ys)
  arrows_more d w lt is = at_drop_more (flat_map (arrow_line ls)) ys i d lt ∙ ap (λ v. arrow_text (get_or ys i d) v ++ flat_map (arrow_line ls) (drop (i + 1) ys)) (sym is)

  pub arrows_all : length ys ≤ i → flat_map (arrow_line ls) (drop i ys) ≡ []
  arrows_all le = at_drop_all (flat_map (arrow_line ls)) ys i le
