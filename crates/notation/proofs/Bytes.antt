-- Lines of plain words. Assumes nothing.
use Rattle.std.proofs.Common.{◌≡◌, ℕ, ◌^◌, ◌<◌, Bool, true, false, not, ◌&&◌, eqb, ltb, List, [], ◌∷◌, ◌++◌, length, get_or, Some, codes, IsAscii, decimal, Option, sym, refl, ap, ◌∙◌, inl, inr, append_assoc, append-nil, arith}
use Rattle.std.specs.List.{list_all}
use Rattle.std.specs.Char.{is_ascii_digit, is_ascii_alphabetic}
use Rattle.std.specs.Str.{all_ascii_digits}
use Rattle.std.proofs.lemmas.Fmt.{digits_decimal, digits_value-decimal, decimal_nonempty, length-decimal-le}
use Rattle.std.proofs.lemmas.List.{get_or_past}
use Rattle.std.proofs.lemmas.List.Folds.{list_all-append}
use Rattle.std.proofs.lemmas.List.Sums.{AllPass-from_list_all, list_all-from_AllPass}
use Rattle.std.proofs.lemmas.Bool.{cases_lt, and_parts, and_from, lt-ltb, le-leb, ltb-true, false≢true}
use Rattle.std.proofs.lemmas.Str.{IsUtf8-from_ascii}
use Rattle.std.proofs.lemmas.Bool.Decides.{nat_tests}
use Rattle.grammar.proofs.Lacking.{before_all}
use Rattle.grammar.specs.Line.{Said, nothing, arrow, fault, shows, before_comment, name_byte, is_name, numeral, is_text, of_words, of_line}
use Rattle.grammar.specs.Words.{blank, dark, words_from, words}
use Rattle.grammar.proofs.Numbers.{own}
use Rattle.grammar.proofs.Texts.{text_is}
use Rattle.drawing.specs.Lines.{inside}

all_append : (p : ℕ → Bool) (xs ys : List ℕ) → list_all p xs ≡ true → list_all p ys ≡ true → list_all p (xs ++ ys) ≡ true
all_append p xs ys h k = list_all-append p xs ys ∙ and_from (list_all p xs) (list_all p ys) h k

all_weaker : (p q : ℕ → Bool) → ((b : ℕ) → p b ≡ true → q b ≡ true) → (xs : List ℕ) → list_all p xs ≡ true → list_all q xs ≡ true
all_weaker p q f xs h = list_all-from_AllPass q xs (λ k d lt. f (get_or xs k d) (AllPass-from_list_all p xs h k d lt))

all_at : (p : ℕ → Bool) (xs : List ℕ) (i : ℕ) → list_all p xs ≡ true → i < length xs → p (get_or xs i 0) ≡ true
all_at p xs i h lt = AllPass-from_list_all p xs h i 0 lt

-- is text by itself, and neither begins a comment nor ends a line
abbrev pub clean : ℕ → Bool
clean b = ltb b 128 && (not (eqb b 35) && inside b)

-- stands in a word
abbrev pub plain : ℕ → Bool
plain b = dark b && clean b

not_35 : (b : ℕ) → clean b ≡ true → b ≡ 35 → ⊥
not_35 b h e = grind (arith, nat_tests)

clean-inside : (b : ℕ) → clean b ≡ true → inside b ≡ true
clean-inside b h = (and_parts _ _ (and_parts (ltb b 128) _ h).1).1

clean_low : (b : ℕ) → clean b ≡ true → b < 128
clean_low b h = ltb-true b 128 (and_parts (ltb b 128) _ h).0

pub no_comment : (l : List ℕ) → list_all clean l ≡ true → before_comment l ≡ l
no_comment l h = before_all l (λ k lt. not_35 _ (all_at clean l k h lt))

pub one_line : (l : List ℕ) → list_all clean l ≡ true → list_all inside l ≡ true
one_line l h = all_weaker clean inside clean-inside l h

low : (l : List ℕ) → list_all clean l ≡ true → IsAscii l
low l h i = elim (cases_lt i (length l)) [ inl lt ↦ clean_low _ (all_at clean l i h lt) | inr le ↦ rw (get_or_past l i 0 le) (omega arith) ]

is_clean_text : (l : List ℕ) → list_all clean l ≡ true → is_text l ≡ true
is_clean_text l h = text_is l (IsUtf8-from_ascii l (low l h))

-- a clean line says what its words say
pub clean_says : (l : List ℕ) (o : Option Said) → list_all clean l ≡ true → of_words (words l) ≡ o → of_line l ≡ o
clean_says l o h says = let e = is_clean_text l h in rw e (ap (λ m. of_words (words m)) (no_comment l h) ∙ says)

pub empty_says : of_line [] ≡ Some nothing
empty_says = clean_says [] (Some nothing) refl refl

name_plain : (b : ℕ) → name_byte b ≡ true → plain b ≡ true
name_plain b h = grind (arith, nat_tests)

digit-plain : (b : ℕ) → is_ascii_digit b ≡ true → plain b ≡ true
digit-plain b h = grind (arith, nat_tests)

pub plain-clean : (xs : List ℕ) → list_all plain xs ≡ true → list_all clean xs ≡ true
plain-clean xs h = all_weaker plain clean (λ b e. (and_parts (dark b) (clean b) e).1) xs h

-- a name and a number are plain words
pub record Word (w : List ℕ) : Type 0 where
  pub some : 0 < length w
  pub bytes : list_all plain w ≡ true

name_parts : (w : List ℕ) → is_name w ≡ true → (is_ascii_alphabetic (get_or w 0 0) ≡ true) × (list_all name_byte w ≡ true)
name_parts w h = let p = and_parts _ _ h in (p.0, (and_parts _ _ p.1).0)

name_some : (w : List ℕ) → is_name w ≡ true → 0 < length w
name_some [] h = absurd (false≢true h)
name_some (b ∷ w) h = omega arith

pub name_word : (w : List ℕ) → is_name w ≡ true → Word w
name_word w h = record { some = name_some w h; bytes = all_weaker name_byte plain name_plain w (name_parts w h).1 }

digits-plain : (ds : List ℕ) → all_ascii_digits ds ≡ true → list_all plain ds ≡ true
digits-plain [] h = refl
digits-plain (c ∷ ds) h = let p = and_parts (is_ascii_digit c) (all_ascii_digits ds) h in and_from (plain c) (list_all plain ds) (digit-plain c p.0) (digits-plain ds p.1)

module _ (n : ℕ) (small : n < 10 ^ 18) where
  wide : n < 2 ^ 64
  wide = omega arith

  pub number_word : Word (decimal n)
  number_word = record { some = decimal_nonempty n wide; bytes = digits-plain (decimal n) (digits_decimal own n wide) }

  pub number_reads : numeral (decimal n) ≡ Some n
  number_reads =
      let e = digits_value-decimal own n wide in
      let d = digits_decimal own n wide in
      let l = lt-ltb 0 (length (decimal n)) (decimal_nonempty n wide) in
      let s = le-leb (length (decimal n)) 18 (length-decimal-le 18 n (omega arith) small wide) in
      rw (d, l, s, e)

  digits_no_name : (ds : List ℕ) → all_ascii_digits ds ≡ true → 0 < length ds → is_name ds ≡ false
  digits_no_name [] h some = absurd (omega arith)
  digits_no_name (c ∷ ds) h some = let a : is_ascii_alphabetic c ≡ false = no_letter c (and_parts _ _ h).0 in rw a
    where
      no_letter : (c : ℕ) → is_ascii_digit c ≡ true → is_ascii_alphabetic c ≡ false
      no_letter c h = grind (arith, nat_tests)

  pub number_no_name : is_name (decimal n) ≡ false
  number_no_name = digits_no_name (decimal n) (digits_decimal own n wide) (decimal_nonempty n wide)

-- words in a row
whole_word : (u w rest : List ℕ) → list_all plain w ≡ true → words_from u (w ++ rest) ≡ words_from (u ++ w) rest
whole_word u [] rest h = rw append-nil
whole_word u (b ∷ w) rest h =
    let p = and_parts (plain b) (list_all plain w) h in
    let e : blank b ≡ false = not_blank b p.0 in
    rw e (whole_word (u ++ (b ∷ [])) w rest p.1 ∙ ap (λ l. words_from l rest) (append_assoc u (b ∷ []) w))
  where
    not_blank : (b : ℕ) → plain b ≡ true → blank b ≡ false
    not_blank b h = grind (arith, nat_tests)

pub word_on : (w rest : List ℕ) → Word w → words (w ++ (32 ∷ rest)) ≡ w ∷ words rest
word_on [] rest h = absurd (omega (arith, h.some))
word_on (b ∷ w) rest h = whole_word [] (b ∷ w) (32 ∷ rest) h.bytes

pub word_last : (w : List ℕ) → Word w → words w ≡ w ∷ []
word_last [] h = absurd (omega (arith, h.some))
word_last (b ∷ w) h = ap words (sym (append-nil (b ∷ w))) ∙ whole_word [] (b ∷ w) [] h.bytes

-- what the three kinds of lines say
module _ (w : List ℕ) (name : is_name w ≡ true) where
  pub shows_line : (n : ℕ) → n < 10 ^ 18 → (list_all clean (w ++ (codes " shows " ++ decimal n)) ≡ true) × (of_line (w ++ (codes " shows " ++ decimal n)) ≡ Some (shows w n))
  shows_line n small =
      let l = w ++ (codes " shows " ++ decimal n) in
      let a = name_word w name in
      let b = number_word n small in
      let tidy : list_all clean l ≡ true = all_append clean w _ (plain-clean w a.bytes) (all_append clean (codes " shows ") (decimal n) refl (plain-clean (decimal n) b.bytes)) in
      let cut : words l ≡ w ∷ codes "shows" ∷ decimal n ∷ [] = word_on w _ a ∙ ap (λ ws. w ∷ ws) (word_on (codes "shows") (decimal n) (record { some = omega arith; bytes = refl }) ∙ ap (λ ws. codes "shows" ∷ ws) (word_last (decimal n) b)) in
      let reads = number_reads n small in
      (tidy, clean_says l _ tidy (ap of_words cut ∙ rw (name, reads)))

  pub fault_line : (list_all clean (w ++ codes " fault") ≡ true) × (of_line (w ++ codes " fault") ≡ Some (fault w))
  fault_line =
      let l = w ++ codes " fault" in
      let a = name_word w name in
      let tidy : list_all clean l ≡ true = all_append clean w _ (plain-clean w a.bytes) refl in
      let cut : words l ≡ w ∷ codes "fault" ∷ [] = word_on w _ a in
      (tidy, clean_says l _ tidy (ap of_words cut ∙ rw name))

  pub arrow_line_reads : (m n : ℕ) → m < 10 ^ 18 → n < 10 ^ 18 → (list_all clean (decimal m ++ (32 ∷ (w ++ (32 ∷ decimal n)))) ≡ true) × (of_line (decimal m ++ (32 ∷ (w ++ (32 ∷ decimal n)))) ≡ Some (arrow m w n))
  arrow_line_reads m n small little =
      let l = decimal m ++ (32 ∷ (w ++ (32 ∷ decimal n))) in
      let a = name_word w name in
      let b = number_word m small in
      let c = number_word n little in
      let tidy : list_all clean l ≡ true = all_append clean (decimal m) _ (plain-clean (decimal m) b.bytes) (all_append clean w _ (plain-clean w a.bytes) (plain-clean (decimal n) c.bytes)) in
      let cut : words l ≡ decimal m ∷ w ∷ decimal n ∷ [] = word_on (decimal m) _ b ∙ ap (λ ws. decimal m ∷ ws) (word_on w (decimal n) a ∙ ap (λ ws. w ∷ ws) (word_last (decimal n) c)) in
      let no_name = number_no_name m small in
      let reads = number_reads m small in
      let reads' = number_reads n little in
      (tidy, clean_says l _ tidy (ap of_words cut ∙ rw (no_name, reads, name, reads')))
