-- The words of a text, cut at its blanks. Assumes nothing.
use Rattle.std.proofs.Common.{◌≡◌, ℕ, ◌<◌, Bool, true, false, cond, not, ltb, Some, None, MatchOption, Option, ◌≤◌, List, [], ◌∷◌, ◌++◌, length, length-drop, take, drop, IsUtf8, sym, refl, ap, ◌∙◌, subst, inl, inr, append_assoc, append-nil, one-add, arith}
use Rattle.std.specs.Str.{IsCharBoundary}
use Rattle.std.specs.Option.{unwrap_or}
use Rattle.std.specs.List.{prefix_len, position_or_len}
use Rattle.std.proofs.lemmas.Bool.{cases_Bool, not-false, ltb-true, ltb-false}
use Rattle.std.proofs.lemmas.Str.{IsUtf8-drop, IsCharBoundary-after_ascii, IsCharBoundary-from_drop}
use Rattle.std.proofs.lemmas.List.{at_drop_all}
use Rattle.std.proofs.lemmas.List.Sums.{prefix_len-le-length, prefix_len_stops}
use Rattle.std.proofs.lemmas.Bool.Decides.{nat_tests}
use Rattle.grammar.specs.Words.{blank, dark, words_from, words}

-- blanks in front of a word are passed over
pub past_blanks : (bs : List ℕ) → words bs ≡ words (drop (position_or_len dark bs) bs)
past_blanks [] = refl
past_blanks (b ∷ bs) = elim (cases_Bool (blank b)) [ inl e ↦ rw (e, one-add) (past_blanks bs) | inr e ↦ simp e ]

-- what is not blank goes on with the word
pub on_with_word : (w bs : List ℕ) → words_from w bs ≡ words_from (w ++ take (position_or_len blank bs) bs) (drop (position_or_len blank bs) bs)
on_with_word w [] = rw append-nil
on_with_word w (b ∷ bs) =
    elim (cases_Bool (blank b)) [
      | inl e ↦ simp (e, append-nil)
      | inr e ↦ simp (e, one-add) (rw (on_with_word (w ++ (b ∷ [])) bs) (simp append_assoc))
    ]

-- bs is empty, or its first byte fails the test
abbrev pub Stops : (ℕ → Bool) → List ℕ → Type 0
Stops p [] = Unit {0}
Stops p (b ∷ bs) = p b ≡ false

pub stops : (p : ℕ → Bool) (bs : List ℕ) → Stops p (drop (prefix_len p bs) bs)
stops p [] = tt
stops p (b ∷ bs) = elim (cases_Bool (p b)) [ inl e ↦ rw (e, one-add) (stops p bs) | inr e ↦ rw e e ]

some_word : (w rest : List ℕ) → 0 < length w → Stops dark rest → words_from w rest ≡ w ∷ words rest
some_word [] rest some s = absurd (omega arith)
some_word (x ∷ w) [] some s = refl
some_word (x ∷ w) (b ∷ rest) some s = let e = not-false (blank b) s in simp e

-- the text d begins with a word
pub first_word : (d : List ℕ) → 0 < length d → Stops (λ b. not (dark b)) d → words d ≡ take (position_or_len blank d) d ∷ words (drop (position_or_len blank d) d)
first_word [] some s = absurd (omega arith)
first_word (b ∷ d) some s =
    let s : blank b ≡ false = not_true-false (blank b) (not-false (dark b) s) in
    let long : 0 < length (take (position_or_len blank (b ∷ d)) (b ∷ d)) = simp (s, one-add) (omega arith) in
    on_with_word [] (b ∷ d) ∙ some_word _ _ long (stops dark (b ∷ d))
  where
    not_true-false : (b : Bool) → not b ≡ true → b ≡ false
    not_true-false true h = sym h
    not_true-false false h = refl

-- where a text may be cut
drop_blanks : (bs : List ℕ) → IsUtf8 bs → IsUtf8 (drop (position_or_len dark bs) bs)
drop_blanks [] u = u
drop_blanks (b ∷ bs) u =
    elim (cases_Bool (blank b)) [
      | inl e ↦
          let low : b < 128 = grind (arith, nat_tests) in
          rw (e, one-add) (drop_blanks bs (IsUtf8-drop (b ∷ bs) 1 u (IsCharBoundary-after_ascii (b ∷ bs) 0 u (omega arith) low)))
      | inr e ↦ rw e u
    ]

pub cut_after_blanks : (bs : List ℕ) → IsUtf8 bs → IsCharBoundary bs (position_or_len dark bs)
cut_after_blanks bs u = IsCharBoundary-from_drop bs _ (prefix_len-le-length (λ b. not (dark b)) bs) (drop_blanks bs u)

pub cut_after_word : (bs : List ℕ) → IsCharBoundary bs (position_or_len blank bs)
cut_after_word bs = (prefix_len-le-length dark bs, λ lt high. let e = prefix_len_stops dark bs 0 lt in grind (arith, nat_tests))

-- where a search has found the place n of l, or nothing
pub found : (n l : ℕ) (r : Option ℕ) → r ≡ cond (ltb n l) (Some n) None → MatchOption r (l ≤ n) (λ i. (i ≡ n) × (i < l))
found n l None h = elim (cases_Bool (ltb n l)) [ inl e ↦ let h' = rw e at h in cc | inr e ↦ ltb-false n l e ]
found n l (Some i) h = elim (cases_Bool (ltb n l)) [ inl e ↦ let h' = rw e at h in let is : i ≡ n = cc in (is, omega (arith, ltb-true n l e)) | inr e ↦ let h' = rw e at h in cc ]

-- the place n of l, or its length
pub found_or : (n l : ℕ) (r : Option ℕ) → r ≡ cond (ltb n l) (Some n) None → n ≤ l → unwrap_or r l ≡ n
found_or n l None h le = let past : l ≤ n = found n l None h in omega arith
found_or n l (Some i) h le = (found n l (Some i) h).0

pub no_word : (s : List ℕ) → length s ≤ position_or_len dark s → words s ≡ []
no_word s none = past_blanks s ∙ at_drop_all words s _ none

module _ (s d : List ℕ) (i : ℕ) (at : i ≡ position_or_len dark s) (after : d ≡ drop i s) where
  pub word_of : (w rest : List ℕ) → i < length s → w ≡ take (position_or_len blank d) d → rest ≡ drop (position_or_len blank d) d → words s ≡ w ∷ words rest
  word_of w rest some front back =
      let e = after ∙ ap (λ i. drop i s) at in
      past_blanks s ∙ ap words (sym e) ∙ first_word d (rw after (simp length-drop (omega arith))) (subst (Stops (λ b. not (dark b))) (sym e) (stops (λ b. not (dark b)) s)) ∙ rw (front, back)
