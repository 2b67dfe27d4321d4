-- A plant as the lines so far draw it, and what a statement adds. These are definitions and assume nothing.
use Rattle.std.specs.Prelude.{◌≡◌, ℕ, ◌<◌, min, Bool, true, false, cond, not, ◌&&◌, ◌||◌, List, [], ◌∷◌, ◌++◌, map, length, Some, None, vec_items, vec_len, string_bytes, Option, ◌==◌, nat_lt, slice_index_or, slice_set}
use Rattle.std.specs.List.{position_or_len}
use Rattle.std.specs.Str.{bytes_eq}
use Rattle.drawing.specs.declared.shape.Arrow.{Arrow}
use Rattle.drawing.specs.declared.draft.Draft.{Draft}
use Rattle.drawing.specs.declared.shape.Event.{Event}
use Rattle.grammar.specs.Line.{Said, nothing, arrow, fault, shows}

-- the events' names, what is said of them, and the arrows
pub record Drafted : Type 0 where
  pub labels : List (List ℕ)
  pub kinds : List Event
  pub ways : List Arrow

abbrev pub drafted : Draft → Drafted
drafted d = record { labels = map string_bytes (vec_items d.names); kinds = vec_items d.events; ways = vec_items d.arrows }

abbrev pub blank_sheet : Drafted
blank_sheet = record { labels = []; kinds = []; ways = [] }

-- where w stands in ws, or how many there are if it doesn't
abbrev pub place : List (List ℕ) → List ℕ → ℕ
place ws w = position_or_len (λ x. bytes_eq x w) ws

-- So many events have a number each. All past them share the next, under the name of the first of them: a plant has at most 64 events, so that such a text is refused whatever they are.
abbrev pub kept : ℕ
kept = 65

abbrev pub number : List (List ℕ) → List ℕ → ℕ
number ws w = min (place ws w) kept

abbrev pub unsaid : Event
unsaid = record { sign = None; fault = false }

-- an event is known from its first mention on
abbrev pub mentioned : Drafted → List ℕ → Drafted
mentioned d w =
    cond (nat_lt (place d.labels w) (length d.labels) || nat_lt kept (length d.labels)) d
    (record { labels = d.labels ++ (w ∷ []); kinds = d.kinds ++ (unsaid ∷ []); ways = d.ways })

-- after the mention of w its number is i
pub record Mentioned (d : Draft) (w : List ℕ) (after : Draft) (i : ℕ) : Type 0 where
  pub number_is : i ≡ number (drafted d).labels w
  pub known : drafted after ≡ mentioned (drafted d) w
  pub within : i < vec_len after.events

-- event i was said to show another sign; for those that share a number this is not looked at
abbrev pub clash : ℕ → Option ℕ → ℕ → Bool
clash i None n = false
clash i (Some m) n = nat_lt i kept && not (m == n)

-- what a statement adds, unless it contradicts an earlier one
abbrev pub put : Drafted → Said → Option Drafted
put d nothing = Some d
put d (arrow m w n) =
    let e = mentioned d w in
    Some (record { labels = e.labels; kinds = e.kinds; ways = e.ways ++ (record { «from» = m; event = number d.labels w; to = n } ∷ []) })
put d (fault w) =
    let e = mentioned d w in
    let i = number d.labels w in
    Some (record { labels = e.labels; kinds = slice_set e.kinds i (record { sign = (slice_index_or e.kinds i unsaid).sign; fault = true }); ways = e.ways })
put d (shows w n) =
    let e = mentioned d w in
    let i = number d.labels w in
    cond (clash i (slice_index_or e.kinds i unsaid).sign n) None
    (Some (record { labels = e.labels; kinds = slice_set e.kinds i (record { sign = Some n; fault = (slice_index_or e.kinds i unsaid).fault }); ways = e.ways }))
