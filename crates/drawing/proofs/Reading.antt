-- A text, one line more. Assumes nothing.
use Rattle.std.proofs.Common.{◌≡◌, ℕ, ◌+◌, ◌<◌, List, ◌∷◌, length, get_or, drop, Some, None, Ok, Err, Bor, Option, sym, ap, ◌∙◌, arith}
use Rattle.std.specs.Iterator.{Yields}
use Rattle.std.specs.List.{enumerate_from}
use Rattle.std.proofs.lemmas.Iterator.{YieldsList}
use Rattle.std.proofs.lemmas.Iterator.Consumers.{YieldsList-turn, YieldsList-end}
use Rattle.std.proofs.lemmas.List.{drop_more, at_drop_all}
use Rattle.std.proofs.lemmas.List.FromFn.{length-enumerate_from, get_or-enumerate_from}
use Rattle.drawing.specs.declared.reads.ReadError.{ReadError}
use Rattle.drawing.specs.declared.reads.ReadError.TheVariants.{Line, Memory}
use Rattle.drawing.specs.Added.{Outcome}
use Rattle.drawing.specs.Drafted.{Drafted}
use Rattle.drawing.specs.Lines.{lines}
use Rattle.drawing.specs.Reads.{added, if_read, read_from, drafting, completed, Right}

-- lines from number n on, the first of which is l
module _ (n : ℕ) (d : Drafted) (l : List ℕ) (more : List (List ℕ)) where
  pub good_line : (e : Drafted) → added d l ≡ Some e → read_from n d (l ∷ more) ≡ read_from (n + 1) e more
  good_line e is = ap (λ o. if_read o n (λ e. read_from (n + 1) e more)) is

  bad_line : added d l ≡ None → read_from n d (l ∷ more) ≡ Err n
  bad_line is = ap (λ o. if_read o n (λ e. read_from (n + 1) e more)) is

-- the line of number n is l, and stands at place i
pub record Stands (ls : List (List ℕ)) (i n : ℕ) (l : List ℕ) : Type 0 where
  pub within : i < length ls
  pub number : n ≡ i
  pub line : l ≡ get_or ls i l

-- a turn of a loop over the numbered lines
module _ {S : Type 0} {steps : S → Option (ℕ × Bor (List ℕ)) → S → Type 0} {s : S} (ls : List (List ℕ)) (xs : List (ℕ × Bor (List ℕ))) (t : S) (y : Yields steps s xs t) (r : Option (ℕ × Bor (List ℕ))) (u : S) (step : steps t r u) where
  pub stands : (n : ℕ) (l : Bor (List ℕ)) → r ≡ Some (n, l) → YieldsList {B = ℕ × List ℕ} steps (λ p. (p.0, p.1.now)) s (enumerate_from 0 ls) → Stands ls (length xs) n l.now
  stands n l is road =
      let h = YieldsList-turn road xs t y r u (n, l) is step in
      let lt : length xs < length ls = omega (arith, h.0, length-enumerate_from 0 ls) in
      let at = h.1 ∙ get_or-enumerate_from 0 ls (length xs) (n, l.now) lt in
      record { within = lt; number = omega (arith, ap (λ p. p.0) at); line = ap (λ p. p.1) at }

  pub all_read : (d : Drafted) → r ≡ None → YieldsList {B = ℕ × List ℕ} steps (λ p. (p.0, p.1.now)) s (enumerate_from 0 ls) → read_from (length xs) d (drop (length xs) ls) ≡ Ok d
  all_read d is road =
      let h = YieldsList-end road xs t y r u is step in
      at_drop_all (read_from (length xs) d) ls (length xs) (omega (arith, h.1, length-enumerate_from 0 ls))

module _ (text : List ℕ) (i n : ℕ) (l : List ℕ) (at : Stands (lines text) i n l) (d : Drafted) (so_far : read_from i d (drop i (lines text)) ≡ drafting text) (after : Drafted) where
  next : read_from i d (l ∷ drop (i + 1) (lines text)) ≡ drafting text
  next = ap (λ x. read_from i d (x ∷ drop (i + 1) (lines text))) at.line ∙ ap (read_from i d) (sym (drop_more (lines text) i l at.within)) ∙ so_far

  pub one_more : added d l ≡ Some after → read_from (i + 1) after (drop (i + 1) (lines text)) ≡ drafting text
  one_more is = sym (good_line i d l (drop (i + 1) (lines text)) after is) ∙ next

  pub wrong : (e : ReadError) → Outcome (added d l) n after (Err e) → Right text (Err e)
  wrong (Line m) h = ap completed (sym next ∙ bad_line i d l (drop (i + 1) (lines text)) h.0) ∙ ap Err (sym at.number ∙ sym h.1)
  wrong Memory h = tt
