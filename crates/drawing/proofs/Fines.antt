-- What is read is fine. Assumes nothing.
use Rattle.std.proofs.Common.{◌≡◌, ℕ, suc, ◌+◌, ◌^◌, ◌<◌, ◌≤◌, min, Bool, true, false, cond, ◌&&◌, ◌||◌, ltb, leb, List, [], ◌∷◌, ◌++◌, length, get_or, set, Some, None, Ok, codes, Option, Result, sym, refl, ap, ◌∙◌, subst, inl, inr, arith}
use Rattle.std.specs.Option.{option_map}
use Rattle.std.specs.List.{AllByRecursion}
use Rattle.std.specs.Str.{all_ascii_digits, bytes_eq}
use Rattle.std.proofs.ByRecursion.{All-push, All-set, All-weaker, All-get_or}
use Rattle.std.proofs.lemmas.Slice.Eq.{bytes_eq-Decides}
use Rattle.std.proofs.lemmas.List.{get_or_append_left, get_or_push, length_push, length-set}
use Rattle.std.proofs.lemmas.List.Folds.{position_or_len_push}
use Rattle.std.proofs.lemmas.Str.Parse.{digits_value_short}
use Rattle.std.proofs.lemmas.Bool.{eq-eqb, ne_eqb, cases_Bool, cases_lt, and_parts, leb-true}
use Rattle.std.proofs.lemmas.Bool.Decides.{nat_tests}
use Rattle.grammar.specs.Line.{Said, nothing, arrow, fault, shows, is_name, is_text, numeral, read_on, from_state, two_words, three_words, of_words, before_comment, of_line}
use Rattle.grammar.specs.Words.{words}
use Rattle.grammar.proofs.Numbers.{own}
use Rattle.drawing.specs.declared.shape.Arrow.{Arrow}
use Rattle.drawing.specs.declared.shape.Event.{Event}
use Rattle.drawing.specs.Drafted.{Drafted, blank_sheet, place, number, unsaid, mentioned, clash, put}
use Rattle.drawing.specs.Fine.{Fine, no_arrow, ShortSign, GoesBy}
use Rattle.drawing.specs.Lines.{lines}
use Rattle.drawing.specs.Reads.{put_said, added, if_read, read_from, drafting}
use Rattle.drawing.proofs.Places.{place_le}

module _ {A : Type 0} where
  none_some : (x : A) → None ≡ Some x → ⊥
  none_some x h = let z : ◌≡◌ {A = ℕ} 0 1 = cc in omega arith

  same_some : (x y : A) → Some x ≡ Some y → x ≡ y
  same_some x y h = cc

  some_cond : (b : Bool) (o : Option A) (x : A) → cond b o None ≡ Some x → (b ≡ true) × (o ≡ Some x)
  some_cond true o x h = (refl, h)
  some_cond false o x h = absurd (none_some x h)

  some_else : (b : Bool) (o : Option A) (x : A) → cond b None o ≡ Some x → o ≡ Some x
  some_else true o x h = absurd (none_some x h)
  some_else false o x h = h

  pub all_from : (P : A → Type 0) (xs : List A) (d : A) → ((i : ℕ) → i < length xs → P (get_or xs i d)) → AllByRecursion P xs
  all_from P [] d h = tt
  all_from P (x ∷ xs) d h = (h 0 (omega arith), all_from P xs d (λ i lt. h (suc i) (omega arith)))

-- a statement of names and short numbers
abbrev Good : Said → Type 0
Good nothing = Unit {0}
Good (arrow m w n) = (m < 10 ^ 18) × (is_name w ≡ true) × (n < 10 ^ 18)
Good (fault w) = is_name w ≡ true
Good (shows w n) = (is_name w ≡ true) × (n < 10 ^ 18)

short_numeral : (w : List ℕ) (n : ℕ) → numeral w ≡ Some n → n < 10 ^ 18
short_numeral w n h =
    let p = some_cond (all_ascii_digits w && (ltb 0 (length w) && leb (length w) 18)) (Some (read_on 0 w)) n h in
    let q = and_parts (all_ascii_digits w) (ltb 0 (length w) && leb (length w) 18) p.0 in
    let r = and_parts (ltb 0 (length w)) (leb (length w) 18) q.1 in
    omega (arith, same_some (read_on 0 w) n p.1, digits_value_short own w 18 q.0 (leb-true (length w) 18 r.1))

shown_good : (w : List ℕ) (o : Option ℕ) (s : Said) → is_name w ≡ true → ((n : ℕ) → o ≡ Some n → n < 10 ^ 18) → option_map (shows w) o ≡ Some s → Good s
shown_good w None s name short h = absurd (none_some s h)
shown_good w (Some n) s name short h = subst Good (same_some _ _ h) (name, short n refl)

to_good : (m : ℕ) (v : List ℕ) (o : Option ℕ) (s : Said) → m < 10 ^ 18 → is_name v ≡ true → ((n : ℕ) → o ≡ Some n → n < 10 ^ 18) → option_map (arrow m v) o ≡ Some s → Good s
to_good m v None s from name short h = absurd (none_some s h)
to_good m v (Some n) s from name short h = subst Good (same_some _ _ h) (from, name, short n refl)

from_good : (o : Option ℕ) (v u : List ℕ) (s : Said) → ((n : ℕ) → o ≡ Some n → n < 10 ^ 18) → from_state o v u ≡ Some s → Good s
from_good None v u s short h = absurd (none_some s h)
from_good (Some m) v u s short h = let p = some_cond (is_name v) _ s h in to_good m v (numeral u) s (short m refl) p.0 (short_numeral u) p.1

two_good : (w v : List ℕ) (s : Said) → two_words w v ≡ Some s → Good s
two_good w v s h = let p = some_cond (is_name w && bytes_eq v (codes "fault")) _ s h in subst Good (same_some _ _ p.1) (and_parts (is_name w) _ p.0).0

three_good : (w v u : List ℕ) (s : Said) → three_words w v u ≡ Some s → Good s
three_good w v u s h =
    elim (cases_Bool (is_name w)) [
      | inl e ↦ shown_good w (numeral u) s e (short_numeral u) (some_cond (bytes_eq v (codes "shows")) _ s (rw e at h)).1
      | inr e ↦ from_good (numeral w) v u s (short_numeral w) (rw e at h)
    ]

words_good : (ws : List (List ℕ)) (s : Said) → of_words ws ≡ Some s → Good s
words_good [] s h = subst Good (same_some _ _ h) tt
words_good (w ∷ []) s h = absurd (none_some s h)
words_good (w ∷ v ∷ []) s h = two_good w v s h
words_good (w ∷ v ∷ u ∷ []) s h = three_good w v u s h
words_good (w ∷ v ∷ u ∷ t ∷ ws) s h = absurd (none_some s h)

line_good : (l : List ℕ) (s : Said) → of_line l ≡ Some s → Good s
line_good l s h = words_good (words (before_comment l)) s (some_cond (is_text l) _ s h).1

-- the same as `Fine`, element by element
pub record EachFine (d : Drafted) : Type 0 where
  pub spelled : AllByRecursion (λ w. is_name w ≡ true) d.labels
  pub apart : (i : ℕ) → i < length d.labels → place d.labels (get_or d.labels i []) ≡ i
  pub few : length d.labels ≤ 66
  pub level : length d.labels ≡ length d.kinds
  pub signs : AllByRecursion ShortSign d.kinds
  pub arrows : AllByRecursion (GoesBy (length d.labels)) d.ways

pub fine_each : (d : Drafted) → Fine d → EachFine d
fine_each d f =
    record { spelled = all_from _ d.labels [] f.spelled; apart = f.apart; few = f.few; level = f.level; signs = all_from _ d.kinds unsaid f.signs; arrows = all_from _ d.ways no_arrow f.arrows }

pub each_fine : (d : Drafted) → EachFine d → Fine d
each_fine d f =
    record {
      spelled = λ i lt. All-get_or _ d.labels i [] lt f.spelled;
      apart = f.apart;
      few = f.few;
      level = f.level;
      signs = λ i lt. All-get_or ShortSign d.kinds i unsaid lt f.signs;
      arrows = λ i lt. All-get_or (GoesBy (length d.labels)) d.ways i no_arrow lt f.arrows;
    }

-- a name more
place_kept : (xs : List (List ℕ)) (w v : List ℕ) → place xs v < length xs → place (xs ++ (w ∷ [])) v ≡ place xs v
place_kept xs w v h =
    position_or_len_push (λ x. bytes_eq x v) xs w
    ∙ ap (λ b. cond b (length xs + cond (bytes_eq w v) 0 1) (place xs v)) (ne_eqb (place xs v) (length xs) (λ e. absurd (omega arith)))

pub place_last : (xs : List (List ℕ)) (w : List ℕ) → place xs w ≡ length xs → place (xs ++ (w ∷ [])) w ≡ length xs
place_last xs w h =
    let all = eq-eqb (place xs w) (length xs) h in
    let here = (bytes_eq-Decides w w).1 refl in
    omega (arith, position_or_len_push (λ x. bytes_eq x w) xs w ∙ (λ j. cond (all j) (length xs + cond (here j) 0 1) (place xs w)))

more_apart : (xs : List (List ℕ)) (w : List ℕ) → ((i : ℕ) → i < length xs → place xs (get_or xs i []) ≡ i) → place xs w ≡ length xs → (i : ℕ) → i < length (xs ++ (w ∷ [])) → place (xs ++ (w ∷ [])) (get_or (xs ++ (w ∷ [])) i []) ≡ i
more_apart xs w apart new i lt =
    elim (cases_lt i (length xs)) [
      | inl less ↦
          let at = apart i less in
          ap (place (xs ++ (w ∷ []))) (get_or_append_left xs (w ∷ []) [] i less) ∙ place_kept xs w (get_or xs i []) (omega arith) ∙ at
      | inr more ↦
          let is : length xs ≡ i = omega (arith, length_push xs w) in
          ap (place (xs ++ (w ∷ []))) (get_or_push xs w [] i is) ∙ place_last xs w new ∙ is
    ]

wider : (n m : ℕ) → n ≤ m → (a : Arrow) → GoesBy n a → GoesBy m a
wider n m le a h = (h.0, omega (arith, h.1), h.2)

known_or_full : (p n : ℕ) → (ltb p n || ltb 65 n) ≡ true → min p 65 < n
known_or_full p n h = grind (arith, nat_tests)

new_and_room : (p n : ℕ) → (ltb p n || ltb 65 n) ≡ false → p ≤ n → (p ≡ n) × (n ≤ 65)
new_and_room p n h le = grind (arith, nat_tests)

fine_mentioned : (d : Drafted) (w : List ℕ) → is_name w ≡ true → EachFine d → EachFine (mentioned d w) × (number d.labels w < length (mentioned d w).labels)
fine_mentioned d w name fine =
    elim (cases_Bool (ltb (place d.labels w) (length d.labels) || ltb 65 (length d.labels))) [
      | inl e ↦ rw e (fine, known_or_full _ _ e)
      | inr e ↦
          let at = new_and_room _ _ e (place_le d.labels w) in
          rw e (
            record {
              spelled = All-push _ d.labels w fine.spelled name;
              apart = more_apart d.labels w fine.apart at.0;
              few = omega (arith, at.1, length_push d.labels w);
              level = omega (arith, fine.level, length_push d.labels w, length_push d.kinds unsaid);
              signs = All-push _ d.kinds _ fine.signs (omega arith);
              arrows = All-weaker _ _ (wider (length d.labels) _ (omega (arith, length_push d.labels w))) d.ways fine.arrows;
            },
            omega (arith, at, length_push d.labels w),
          )
    ]

fine_set : (d : Drafted) (i : ℕ) (e : Event) → ShortSign e → EachFine d → EachFine (record { labels = d.labels; kinds = set d.kinds i e; ways = d.ways })
fine_set d i e short fine =
    record { spelled = fine.spelled; apart = fine.apart; few = fine.few; level = fine.level ∙ sym (length-set d.kinds i e); signs = All-set _ d.kinds i e short fine.signs; arrows = fine.arrows }

fine_put : (d : Drafted) (s : Said) (after : Drafted) → Good s → EachFine d → put d s ≡ Some after → EachFine after
fine_put d nothing after good fine h = subst EachFine (same_some _ _ h) fine
fine_put d (arrow m w n) after good fine h =
    let k = fine_mentioned d w good.1 fine in
    let f = k.0 in
    subst EachFine (same_some _ _ h) (record { spelled = f.spelled; apart = f.apart; few = f.few; level = f.level; signs = f.signs; arrows = All-push _ (mentioned d w).ways _ f.arrows (good.0, k.1, good.2) })
fine_put d (fault w) after good fine h =
    let k = fine_mentioned d w good fine in
    let e = mentioned d w in
    let i = number d.labels w in
    subst EachFine (same_some _ _ h) (fine_set e i _ (All-get_or ShortSign e.kinds i unsaid (omega (arith, k.0.level, k.1)) k.0.signs) k.0)
fine_put d (shows w n) after good fine h =
    let k = fine_mentioned d w good.0 fine in
    let e = mentioned d w in
    let i = number d.labels w in
    subst EachFine (same_some _ _ (some_else (clash i (get_or e.kinds i unsaid).sign n) _ after h)) (fine_set e i _ good.1 k.0)

fine_said : (d : Drafted) (o : Option Said) (after : Drafted) → ((s : Said) → o ≡ Some s → Good s) → EachFine d → put_said d o ≡ Some after → EachFine after
fine_said d None after good fine h = absurd (none_some after h)
fine_said d (Some s) after good fine h = fine_put d s after (good s refl) fine h

fine_line : (o : Option Drafted) (n : ℕ) (e : Drafted) (more : Drafted → Result Drafted ℕ) → ((d : Drafted) → o ≡ Some d → more d ≡ Ok e → EachFine e) → if_read o n more ≡ Ok e → EachFine e
fine_line None n e more each h = absurd (let z : ◌≡◌ {A = ℕ} 0 1 = cc in omega arith)
fine_line (Some d) n e more each h = each d refl h

fine_from : (n : ℕ) (d e : Drafted) (ls : List (List ℕ)) → EachFine d → read_from n d ls ≡ Ok e → EachFine e
fine_from n d e [] fine h = let same : d ≡ e = cc in subst EachFine same fine
fine_from n d e (l ∷ ls) fine h =
    fine_line (added d l) n e _ (λ after is on. fine_from (n + 1) after e ls (fine_said d (of_line l) after (line_good l) fine is) on) h

pub draft_fine : (bs : List ℕ) (d : Drafted) → drafting bs ≡ Ok d → Fine d
draft_fine bs d h = each_fine d (fine_from 0 blank_sheet d (lines bs) (record { spelled = tt; apart = λ i lt. absurd (omega arith); few = omega arith; level = refl; signs = tt; arrows = tt }) h)
