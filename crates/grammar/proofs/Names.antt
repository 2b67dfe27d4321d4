-- What is a name, test by test. Assumes nothing.
use Rattle.std.proofs.Common.{◌≡◌, ℕ, ◌≤◌, true, false, List, [], ◌∷◌, length, get_or, codes, inl, inr, refl, arith}
use Rattle.std.specs.Char.{is_ascii_alphabetic}
use Rattle.std.specs.List.{list_all}
use Rattle.std.specs.Str.{bytes_eq}
use Rattle.std.proofs.lemmas.Slice.Eq.{bytes_eq-Decides}
use Rattle.std.proofs.lemmas.Bool.{cases_Bool, le-leb}
use Rattle.grammar.specs.Line.{name_byte, is_name}

pub empty_no_name : (w : List ℕ) → length w ≡ 0 → false ≡ is_name w
empty_no_name [] e = refl
empty_no_name (b ∷ w) e = absurd (omega arith)

pub name_by_bytes : (w : List ℕ) → length w ≤ 32 → is_ascii_alphabetic (get_or w 0 0) ≡ true → (w ≡ codes "nothing" → ⊥) → list_all name_byte w ≡ is_name w
name_by_bytes w short letter other =
    let few = le-leb (length w) 32 short in
    let e : bytes_eq w (codes "nothing") ≡ false = elim (cases_Bool (bytes_eq w (codes "nothing"))) [ inl t ↦ absurd (other ((bytes_eq-Decides w (codes "nothing")).0 t)) | inr f ↦ f ] in
    elim (cases_Bool (list_all name_byte w)) [ inl t ↦ rw (t, letter, few, e) | inr f ↦ rw (f, letter) ]
