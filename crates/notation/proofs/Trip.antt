-- What is written reads as what was drawn. Assumes nothing.
use Rattle.std.proofs.Common.{◌≡◌, ℕ, ◌+◌, ◌^◌, ◌<◌, ◌≤◌, Bool, true, false, cond, not, eqb, List, [], ◌∷◌, ◌++◌, map, length, get_or, Some, Ok, codes, decimal, sym, refl, ap, ◌∙◌, subst, inl, inr, append_assoc, append-nil, arith, length-append}
use Rattle.std.specs.List.{flat_map, list_all, AllByRecursion}
use Rattle.std.specs.Str.{bytes_eq}
use Rattle.std.proofs.ByRecursion.{All-get_or, All-map}
use Rattle.std.proofs.lemmas.List.Folds.{prefix_len-append}
use Rattle.std.proofs.lemmas.List.{get_or_at, set_at, length_push, length-map}
use Rattle.std.proofs.lemmas.Bool.{cases_Bool, eqb-true, lt-ltb, le-ltb}
use Rattle.grammar.specs.Line.{Said, arrow, fault, shows, is_name, of_line}
use Rattle.drawing.specs.declared.finished.Drawing.{Drawing}
use Rattle.drawing.specs.declared.shape.Arrow.{Arrow}
use Rattle.drawing.specs.declared.shape.Event.{Event}
use Rattle.drawing.specs.Drafted.{Drafted, drafted, place, number, unsaid, put}
use Rattle.drawing.specs.Drawn.{Kind, kind, drawn}
use Rattle.drawing.specs.Fine.{Apart, GoesBy, ShortSign, no_arrow}
use Rattle.drawing.specs.Lines.{lines}
use Rattle.drawing.specs.Reads.{put_said, if_read, read_from, drafting, completed, reading}
use Rattle.drawing.proofs.Fines.{all_from, place_last}
use Rattle.drawing.proofs.Places.{as_long}
use Rattle.drawing.proofs.Newlines.{lines_cut}
use Rattle.drawing.proofs.Reading.{good_line}
use Rattle.notation.specs.Written.{event_lines, all_events, arrow_line, written}
use Rattle.notation.proofs.Bytes.{clean, one_line, empty_says, shows_line, fault_line, arrow_line_reads}

-- the lines bs lead from the draft d to e, whatever follows
record Goes (bs : List ℕ) (d e : Drafted) : Type 0 where
  leads : (n : ℕ) (tail : List ℕ) → (m : ℕ) × (read_from n d (lines (bs ++ tail)) ≡ read_from m e (lines tail))

goes_none : (d : Drafted) → Goes [] d d
goes_none d = record { leads = λ n tail. (n, refl) }

goes_as : {bs cs : List ℕ} {d e : Drafted} → bs ≡ cs → Goes bs d e → Goes cs d e
goes_as {bs} {cs} {d} {e} p g = subst (λ l. Goes l d e) p g

goes_on : (xs ys : List ℕ) (d e f : Drafted) → Goes xs d e → Goes ys e f → Goes (xs ++ ys) d f
goes_on xs ys d e f g h =
    record {
      leads = λ n tail.
          let a = g.leads n (ys ++ tail) in
          let b = h.leads a.0 tail in
          (b.0, ap (λ l. read_from n d (lines l)) (append_assoc xs ys tail) ∙ a.1 ∙ b.1);
    }

goes_line : (l : List ℕ) (s : Said) (d e : Drafted) → list_all clean l ≡ true → of_line l ≡ Some s → put d s ≡ Some e → Goes (l ++ codes "\n") d e
goes_line l s d e tidy says adds =
    record {
      leads = λ n tail.
          (n + 1, ap (λ m. read_from n d (lines m)) (append_assoc l (codes "\n") tail) ∙ ap (read_from n d) (lines_cut l tail (one_line l tidy)) ∙ good_line n d l (lines tail) e (ap (put_said d) says ∙ adds));
    }

-- where a name is found
place_front : (xs ys : List (List ℕ)) (w : List ℕ) → place (xs ++ ys) w ≡ length xs → place xs w ≡ length xs
place_front xs ys w h =
    elim (cases_Bool (eqb (place xs w) (length xs))) [
      | inl e ↦ eqb-true (place xs w) (length xs) e
      | inr e ↦ ap (λ b. cond b (length xs + place ys w) (place xs w)) (sym e) ∙ sym (prefix_len-append (λ x. not (bytes_eq x w)) xs ys) ∙ h
    ]

-- what is said of an event when its lines are read
abbrev settled : Kind → Event
settled k = record { sign = Some k.sign; fault = k.fault }

abbrev sheet : List (List ℕ) → List Event → List Arrow → Drafted
sheet ws es ys = record { labels = ws; kinds = es; ways = ys }

-- the lines of an event make it known, after those of xs
module _ (xs : List (List ℕ)) (ks : List Event) (level : length xs ≡ length ks) (room : length xs ≤ 65) (w : List ℕ) (new : place xs w ≡ length xs) where
  abbrev known : Event → Drafted
  known e = sheet (xs ++ (w ∷ [])) (ks ++ (e ∷ [])) []

  put_shows : (n : ℕ) → put (sheet xs ks []) (shows w n) ≡ Some (known (record { sign = Some n; fault = false }))
  put_shows n =
      let e = le-ltb (place xs w) (length xs) (omega arith) in
      let f = le-ltb 65 (length xs) room in
      let i : length ks ≡ number xs w = omega arith in
      let at = get_or_at ks unsaid [] unsaid (number xs w) i in
      let is = set_at ks unsaid [] (record { sign = Some n; fault = false }) (number xs w) i in
      rw (e, f, at, is)

  put_fault : (n : ℕ) → put (known (record { sign = Some n; fault = false })) (fault w) ≡ Some (known (record { sign = Some n; fault = true }))
  put_fault n =
      let here = place_last xs w new in
      let e = lt-ltb (place (xs ++ (w ∷ [])) w) (length (xs ++ (w ∷ []))) (omega (arith, length_push xs w)) in
      let i : length ks ≡ number (xs ++ (w ∷ [])) w = omega arith in
      let at = get_or_at ks (record { sign = Some n; fault = false }) [] unsaid (number (xs ++ (w ∷ [])) w) i in
      let is = set_at ks (record { sign = Some n; fault = false }) [] (record { sign = Some n; fault = true }) (number (xs ++ (w ∷ [])) w) i in
      rw (e, at, is)

  module _ (name : is_name w ≡ true) (n : ℕ) (short : n < 10 ^ 18) where
    shown_first : Goes ((w ++ (codes " shows " ++ decimal n)) ++ codes "\n") (sheet xs ks []) (known (record { sign = Some n; fault = false }))
    shown_first = let h = shows_line w name n short in goes_line (w ++ (codes " shows " ++ decimal n)) (shows w n) _ _ h.0 h.1 (put_shows n)

    then_fault : Goes (w ++ codes " fault\n") (known (record { sign = Some n; fault = false })) (known (record { sign = Some n; fault = true }))
    then_fault =
        let h = fault_line w name in
        goes_as (append_assoc w (codes " fault") (codes "\n")) (goes_line (w ++ codes " fault") (fault w) _ _ h.0 h.1 (put_fault n))

    regrouped : (t : List ℕ) → ((w ++ (codes " shows " ++ decimal n)) ++ codes "\n") ++ t ≡ w ++ (codes " shows " ++ (decimal n ++ (codes "\n" ++ t)))
    regrouped t = simp append_assoc

    goes_event : (f : Bool) → Goes (event_lines w (record { sign = n; fault = f })) (sheet xs ks []) (known (record { sign = Some n; fault = f }))
    goes_event true = goes_as (regrouped (w ++ codes " fault\n")) (goes_on _ (w ++ codes " fault\n") _ _ _ shown_first then_fault)
    goes_event false = goes_as (regrouped []) (goes_on _ [] _ _ _ shown_first (goes_none _))

goes_events : (xs ws : List (List ℕ)) (ks : List Event) (es : List Kind) → length xs ≡ length ks → length ws ≡ length es → length (xs ++ ws) ≤ 66 → AllByRecursion (λ w. is_name w ≡ true) ws → AllByRecursion (λ k. k.sign < 10 ^ 18) es → Apart (xs ++ ws) → Goes (all_events ws es) (sheet xs ks []) (sheet (xs ++ ws) (ks ++ map settled es) [])
goes_events xs [] ks [] level same few names signs apart = rw (append-nil xs, append-nil ks) (goes_none _)
goes_events xs [] ks (e ∷ es) level same few names signs apart = absurd (omega arith)
goes_events xs (w ∷ ws) ks [] level same few names signs apart = absurd (omega arith)
goes_events xs (w ∷ ws) ks (e ∷ es) level same few names signs apart =
    let here = apart (length xs) (omega (arith, length-append xs (w ∷ ws))) in
    let new = place_front xs (w ∷ ws) w (ap (place (xs ++ (w ∷ ws))) (sym (get_or_at xs w ws [] (length xs) refl)) ∙ here) in
    let one = goes_event xs ks level (omega (arith, length-append xs (w ∷ ws))) w new names.0 e.sign signs.0 e.fault in
    let rest = goes_events (xs ++ (w ∷ [])) ws (ks ++ (settled e ∷ [])) es (omega (arith, length_push xs w, length_push ks (settled e))) (omega arith) (rw (append_assoc xs (w ∷ []) ws) few) names.1 signs.1 (rw (append_assoc xs (w ∷ []) ws) apart) in
    goes_on (event_lines w e) (all_events ws es) _ _ _ one (rw (append_assoc xs (w ∷ []) ws, append_assoc ks (settled e ∷ []) (map settled es)) at rest)

module _ (ws : List (List ℕ)) (ks : List Event) (names : AllByRecursion (λ w. is_name w ≡ true) ws) (apart : Apart ws) (few : length ws ≤ 66) where
  put_arrow : (ys : List Arrow) (a : Arrow) → a.event < length ws → put (sheet ws ks ys) (arrow a.«from» (get_or ws a.event []) a.to) ≡ Some (sheet ws ks (ys ++ (a ∷ [])))
  put_arrow ys a lt =
      let at = apart a.event lt in
      let e = lt-ltb (place ws (get_or ws a.event [])) (length ws) (omega arith) in
      let i : number ws (get_or ws a.event []) ≡ a.event = omega arith in
      rw (e, i)

  regrouped_arrow : (m n : ℕ) (w : List ℕ) → (decimal m ++ (32 ∷ (w ++ (32 ∷ decimal n)))) ++ codes "\n" ≡ decimal m ++ (codes " " ++ (w ++ (codes " " ++ (decimal n ++ codes "\n"))))
  regrouped_arrow m n w = simp append_assoc

  goes_arrow : (ys : List Arrow) (a : Arrow) → GoesBy (length ws) a → Goes (arrow_line ws a) (sheet ws ks ys) (sheet ws ks (ys ++ (a ∷ [])))
  goes_arrow ys a go =
      let w = get_or ws a.event [] in
      let h = arrow_line_reads w (All-get_or (λ w. is_name w ≡ true) ws a.event [] go.1 names) a.«from» a.to go.0 go.2 in
      goes_as (regrouped_arrow a.«from» a.to w) (goes_line (decimal a.«from» ++ (32 ∷ (w ++ (32 ∷ decimal a.to)))) (arrow a.«from» w a.to) _ _ h.0 h.1 (put_arrow ys a go.1))

  goes_arrows : (ys zs : List Arrow) → AllByRecursion (GoesBy (length ws)) zs → Goes (flat_map (arrow_line ws) zs) (sheet ws ks ys) (sheet ws ks (ys ++ zs))
  goes_arrows ys [] go = rw append-nil (goes_none _)
  goes_arrows ys (z ∷ zs) go =
      goes_on (arrow_line ws z) (flat_map (arrow_line ws) zs) _ _ _ (goes_arrow ys z go.0) (rw (append_assoc ys (z ∷ []) zs) at (goes_arrows (ys ++ (z ∷ [])) zs go.1))

settled_back : (ks : List Kind) → map kind (map settled ks) ≡ ks
settled_back [] = refl
settled_back (k ∷ ks) = ap (λ l. k ∷ l) (settled_back ks)

at_end : (n : ℕ) (d : Drafted) → read_from n d (lines []) ≡ Ok d
at_end n d = ap (λ o. if_read (put_said d o) n (λ e. Ok e)) empty_says

pub round_trip : (d : Drawing) → reading (written (drawn d)) ≡ Ok (drawn d)
round_trip d =
    let ws = (drawn d).labels in
    let ks = (drawn d).kinds in
    let ys = (drawn d).ways in
    let names = all_from (λ w. is_name w ≡ true) ws [] d.spelled in
    let signs = All-map (λ k. k.sign < 10 ^ 18) kind (drafted d.draft).kinds (all_from ShortSign (drafted d.draft).kinds unsaid d.signs) in
    let long : length ws ≡ length ks = as_long d.draft ∙ sym (length-map (drafted d.draft).kinds kind) in
    let events = goes_events [] ws [] ks refl long d.few names signs d.apart in
    let arrows = goes_arrows ws (map settled ks) names d.apart d.few [] ys (all_from (GoesBy (length ws)) ys no_arrow d.ways) in
    let all = goes_on (all_events ws ks) (flat_map (arrow_line ws) ys) _ _ _ events arrows in
    let draft : drafting (written (drawn d)) ≡ Ok (sheet ws (map settled ks) ys) = ap drafting (sym (append-nil (written (drawn d)))) ∙ (all.leads 0 []).1 ∙ at_end _ _ in
    ap completed draft ∙ ap (λ l. Ok (record { labels = ws; kinds = l; ways = ys })) (settled_back ks)
