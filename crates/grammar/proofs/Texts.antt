-- The test of bytes for text is the library's notion of UTF-8. Assumes nothing.
use Rattle.std.proofs.Common.{◌≡◌, ℕ, true, false, List, IsUtf8, Bor, Ok, Err, Option, Result, MatchOption, inl, inr}
use Rattle.std.specs.Result.{MatchResult, result_ok}
use Rattle.std.specs.Str.{chars}
use Rattle.std.proofs.lemmas.Slice.Eq.{bytes_eq-Decides}
use Rattle.std.proofs.lemmas.Bool.{cases_Bool, and_parts, and_from}
use Rattle.std.proofs.lemmas.Str.{encodes-chars, scalars-chars}
use Rattle.grammar.specs.Line.{is_text}

pub text_is : (bs : List ℕ) → IsUtf8 bs → is_text bs ≡ true
unfolding is_text
text_is bs u = and_from _ _ (scalars-chars bs u) ((bytes_eq-Decides _ bs).1 (encodes-chars bs u))

pub is_utf8 : (bs : List ℕ) → is_text bs ≡ true → IsUtf8 bs
unfolding is_text
is_utf8 bs h = let p = and_parts _ _ h in (chars bs, (p.0, (bytes_eq-Decides _ bs).0 p.1))

pub text_no : (bs : List ℕ) → (IsUtf8 bs → ⊥) → is_text bs ≡ false
text_no bs not = elim (cases_Bool (is_text bs)) [ inl e ↦ absurd (not (is_utf8 bs e)) | inr e ↦ e ]

-- what `from_utf8(bs).ok()` is, where P is what else is known of the error
pub text_ok : {E : Type 0} (P : E → Type 0) (bs : List ℕ) (r : Result (Bor (List ℕ)) E) (o : Option (Bor (List ℕ))) → o ≡ result_ok r → MatchResult r (λ s. (s.now ≡ bs) × IsUtf8 bs) (λ e. ¬ (IsUtf8 bs) × P e) → MatchOption o (is_text bs ≡ false) (λ s. (is_text bs ≡ true) × (s.now ≡ bs))
text_ok P bs (Ok s) o is h = rw is (text_is bs h.1, h.0)
text_ok P bs (Err e) o is h = rw is (text_no bs h.0)
