-- What is known where no rule turns a sort away. Assumes nothing.
use Rattle.std.proofs.Common.{◌≡◌, ℕ, false, ◌&&◌, leb, List, length, take, None, Option, Result, sym, refl, ap, ◌∙◌, arith}
use Rattle.std.proofs.lemmas.Bool.{and_parts, leb-true, ne_eqb}
use Rattle.plant.specs.declared.parts.Refusal.{Refusal}
use Rattle.plant.specs.declared.lent.Numbers.{Numbers}
use Rattle.plant.specs.Checked.{Answered, behaviour, refusal_in}
use Rattle.plant.specs.Numbers.{plant_in}
use Rattle.plant.specs.Plant.{Plant}
use Rattle.plant.specs.Refusals.{or_else, refusal}
use Rattle.plant.proofs.Valid.{or_else_none, passed}
use Rattle.observer.specs.declared.words.Word.{Word}
use Rattle.observer.specs.Entry.{WordSays}
use Rattle.observer.specs.Refusals.{follow_refusal, marks_refusal as memory-refusal, sign_refusal}
use Rattle.diagnosability.specs.declared.verdict.Verdict.{Verdict}
use Rattle.diagnosability.specs.Verdict.{Judges, judge_refusal, room_refusal}
use Rattle.sorts.specs.declared.held.Marked.{Marked}
use Rattle.sorts.specs.declared.kinds.Faults.{Faults}
use Rattle.sorts.specs.declared.kinds.Faults.TheVariants.{Sort, Any}
use Rattle.sorts.specs.Held.{Held, numbers_in}
use Rattle.sorts.specs.Refusals.{asked_refusal, marks_refusal, memory_too, room_too, sorts_refusal}
use Rattle.sorts.specs.Sorts.{is_fault, marked_by, plant_of}
use Rattle.sorts.proofs.Cutting.{cut_refusal, cut_whole}
use Rattle.sorts.proofs.Numbering.{plant_same}

-- an event without a sort does not count
none_counts : (f : Faults) → asked_refusal f ≡ None → is_fault f 0 ≡ false
unfolding asked_refusal
none_counts (Sort k) e =
    let within = (passed (leb 1 k && leb k 8) _ _ e).0 in
    let some = leb-true 1 k (and_parts (leb 1 k) (leb k 8) within).0 in
    ne_eqb 0 k (λ z. omega arith)
none_counts Any e = refl

module _ (f : Faults) (n : ℕ) (xs es : List ℕ) where
  abbrev marked : List ℕ
  marked = marked_by f es

  -- the plant of the events that are held, where no rule turns it away
  made : refusal n xs marked ≡ None → sorts_refusal f es ≡ None → plant_in xs (take 129 marked) ≡ plant_of f xs es
  made e s = ap (plant_in xs) (cut_whole n xs marked e) ∙ plant_same f (none_counts f (or_else_none (marks_refusal es) (asked_refusal f) s).1) xs es

  pub held : (m : Marked) → numbers_in m ≡ take 129 marked → refusal n xs marked ≡ None → sorts_refusal f es ≡ None → Held f n xs es m
  held m is e s = record {
    accepted = rw (e, s);
    valid = ap (refusal n xs) is ∙ cut_refusal n xs marked ∙ e;
    numbers = is ∙ cut_whole n xs marked e;
    plant = ap (plant_in xs) is ∙ made e s;
  }

-- these numbers, but for the events, of which the first 129 are marked
pub record Lent (f : Faults) (ns ms : Numbers) : Type 0 where
  pub states : ms.states ≡ ns.states
  pub arrows : ms.arrows.now ≡ ns.arrows.now
  pub events : ms.events.now ≡ take 129 (marked_by f ns.events.now)

module _ (f : Faults) (ns ms : Numbers) (lent : Lent f ns ms) where
  abbrev n : ℕ
  n = ns.states

  abbrev xs : List ℕ
  xs = ns.arrows.now

  abbrev es : List ℕ
  es = ns.events.now

  -- the base's rules over the events that are held are those over all of them
  pub plant_rules : refusal_in ms ≡ refusal n xs (marked_by f es)
  plant_rules = rw (lent.states, lent.arrows, lent.events) (cut_refusal n xs (marked_by f es))

  pub room_rules : (room : ℕ) → judge_refusal ms.states ms.arrows.now ms.events.now room ≡ judge_refusal n xs (marked_by f es) room
  room_rules room = ap (λ (k : ℕ). or_else (refusal_in ms) (room_refusal k room)) lent.states ∙ ap (λ (o : Option Refusal). or_else o (room_refusal n room)) plant_rules

  pub memory_rules : (m : List ℕ) (o : ℕ) → follow_refusal ms.states ms.arrows.now ms.events.now m o ≡ follow_refusal n xs (marked_by f es) m o
  memory_rules m o =
      ap (λ (k : ℕ). or_else (refusal_in ms) (or_else (memory-refusal k m) (sign_refusal o))) lent.states
      ∙ ap (λ (a : Option Refusal). or_else a (or_else (memory-refusal n m) (sign_refusal o))) plant_rules

  lent_makes : refusal n xs (marked_by f es) ≡ None → sorts_refusal f es ≡ None → behaviour ms ≡ plant_of f xs es
  lent_makes e s = rw (lent.arrows, lent.events) (made f n xs es e s)

  -- what the base says over these events is what is said of the sort
  pub judged : (room room₁ : List ℕ) (r : Result Verdict Refusal) → room_too f n xs es (length room) ≡ None
      → Judges (judge_refusal ms.states ms.arrows.now ms.events.now (length room)) (behaviour ms) room r room₁ → Judges (room_too f n xs es (length room)) (plant_of f xs es) room r room₁
  judged room room₁ r e says =
      let base = or_else_none (judge_refusal n xs (marked_by f es) (length room)) (sorts_refusal f es) e in
      let own = or_else_none (refusal n xs (marked_by f es)) (room_refusal n (length room)) base.0 in
      moved (lent_makes own.0 base.1) (room_rules (length room) ∙ base.0 ∙ sym e) says
    where
      moved : {p q : Plant} {a b : Option Refusal} → p ≡ q → a ≡ b → Judges a p room r room₁ → Judges b q room r room₁
      moved h k s = rw (← h, ← k) s

  pub followed : (m : List ℕ) (o : ℕ) (r : Result Word Refusal) (m₁ : List ℕ) → memory_too f n xs es m o ≡ None
      → Answered (follow_refusal ms.states ms.arrows.now ms.events.now m o) (λ w. WordSays ms.states (behaviour ms) m o w m₁) (m₁ ≡ m) r
      → Answered (memory_too f n xs es m o) (λ w. WordSays n (plant_of f xs es) m o w m₁) (m₁ ≡ m) r
  followed m o r m₁ e says =
      let base = or_else_none (follow_refusal n xs (marked_by f es) m o) (sorts_refusal f es) e in
      let own = or_else_none (refusal n xs (marked_by f es)) (or_else (memory-refusal n m) (sign_refusal o)) base.0 in
      moved lent.states (lent_makes own.0 base.1) (memory_rules m o ∙ base.0 ∙ sym e) says
    where
      moved : {j k : ℕ} {p q : Plant} {a b : Option Refusal} → j ≡ k → p ≡ q → a ≡ b → Answered a (λ w. WordSays j p m o w m₁) (m₁ ≡ m) r → Answered b (λ w. WordSays k q m o w m₁) (m₁ ≡ m) r
      moved i h k s = rw (← i, ← h, ← k) s
