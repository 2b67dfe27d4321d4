-- A search for a name, one name more. Assumes nothing.
use Rattle.std.proofs.Common.{◌≡◌, ℕ, ◌<◌, ◌≤◌, min, List, [], ◌∷◌, ◌++◌, map, length, vec_items, vec_len, string_bytes, String, sym, refl, not, ◌⊎◌, ap, ◌∙◌, inl, inr, arith}
use Rattle.std.specs.declared.alloc.Global.{Global}
use Rattle.std.specs.List.{position_or_len}
use Rattle.std.specs.Str.{bytes_eq}
use Rattle.std.proofs.lemmas.List.Sums.{prefix_len-le-length}
use Rattle.std.proofs.lemmas.List.{length-map, length_push, map_push}
use Rattle.std.proofs.lemmas.Bool.{lt-ltb, le-ltb}
use Rattle.drawing.specs.declared.draft.Draft.{Draft}
use Rattle.drawing.specs.Drafted.{drafted, place, unsaid, Mentioned}

pub place_le : (ws : List (List ℕ)) (w : List ℕ) → place ws w ≤ length ws
place_le ws w = prefix_len-le-length (λ x. not (bytes_eq x w)) ws

-- a search in texts is one in their bytes
pub place-map : {Z : Type 0} (ns : List (String Z)) (w : List ℕ) → position_or_len (λ s. bytes_eq (string_bytes s) w) ns ≡ place (map string_bytes ns) w
place-map [] w = refl
place-map (s ∷ ns) w = let e = place-map ns w in rw e

pub as_long : (d : Draft) → length (drafted d).labels ≡ length (drafted d).kinds
as_long d = omega (arith, length-map (vec_items d.names) (string_bytes {Z = Global}), d.names.ok.0, d.events.ok.0, d.level)

module _ (d : Draft) (w : List ℕ) (p : ℕ) (at : p ≡ place (drafted d).labels w) where
  long : length (drafted d).labels ≡ vec_len d.names
  long = length-map (vec_items d.names) string_bytes ∙ sym d.names.ok.0

  -- a name that is known, or one more than are kept
  pub mention_old : (i n : ℕ) → i ≡ min p 65 → n ≡ vec_len d.names → (p < n) ⊎ ((n ≤ p) × (65 < p)) → Mentioned d w d i
  mention_old i n is many (inl lt) =
      let e = lt-ltb (place (drafted d).labels w) (length (drafted d).labels) (omega (arith, long, at)) in
      record { number_is = is ∙ ap (λ n. min n 65) at; known = rw e; within = omega (arith, is, d.level) }
  mention_old i n is many (inr past) =
      let e = le-ltb (place (drafted d).labels w) (length (drafted d).labels) (omega (arith, past.0, many, long, at)) in
      let f = lt-ltb 65 (length (drafted d).labels) (omega (arith, past.1, long, at, place_le (drafted d).labels w)) in
      record { number_is = omega (arith, at); known = rw (e, f); within = omega (arith, is, d.level, at, past.1, long, place_le (drafted d).labels w) }

  pub mention_new : (after : Draft) (s : String Global) → vec_len d.names ≤ p → p ≤ 65 → vec_items after.names ≡ vec_items d.names ++ (s ∷ []) → vec_items after.events ≡ vec_items d.events ++ (unsaid ∷ []) → vec_items after.arrows ≡ vec_items d.arrows → string_bytes s ≡ w → Mentioned d w after p
  mention_new after s le room names events arrows text =
      let full : p ≡ vec_len d.names = omega (arith, long, at, place_le (drafted d).labels w) in
      let e = le-ltb (place (drafted d).labels w) (length (drafted d).labels) (omega (arith, long, at)) in
      let f = le-ltb 65 (length (drafted d).labels) (omega (arith, long)) in
      let labels = ap (map string_bytes) names ∙ map_push string_bytes (vec_items d.names) s ∙ ap (λ t. map string_bytes (vec_items d.names) ++ (t ∷ [])) text in
      let one = after.names.ok.0 ∙ ap length names ∙ length_push (vec_items d.names) s in
      let other = after.events.ok.0 ∙ ap length events ∙ length_push (vec_items d.events) unsaid in
      record {
        number_is = omega (arith, at);
        known = rw (e, f) (λ j. record { labels = labels j; kinds = events j; ways = arrows j });
        within = omega (arith, d.level, full, other, d.names.ok.0, d.events.ok.0);
      }
