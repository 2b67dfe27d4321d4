-- What a verdict says of a plant and of the room that was lent. These are definitions and assume nothing.
use Rattle.std.specs.Prelude.{◌≡◌, ℕ, ◌+◌, ◌*◌, ◌<◌, ◌≤◌, cond, List, length, take, drop, Some, None, Ok, Err, Option, Result, nat_lt}
use Rattle.plant.specs.declared.parts.Refusal.{Refusal}
use Rattle.plant.specs.declared.parts.Refusal.TheVariants.{Room}
use Rattle.plant.specs.Plant.{Plant, ComesOutIn, Hides}
use Rattle.plant.specs.Checked.{Answered}
use Rattle.plant.specs.Refusals.{or_else, refusal}
use Rattle.diagnosability.specs.declared.verdict.Lengths.{Lengths}
use Rattle.diagnosability.specs.declared.verdict.Verdict.{Verdict}
use Rattle.diagnosability.specs.declared.verdict.Verdict.TheVariants.{Out, Hidden}

-- 4: a room of less than eight times the square of the states
unfoldable pub room_refusal : (states room : ℕ) → Option Refusal
room_refusal n room = cond (nat_lt room (8 * (n * n))) (Some (Room room)) None

-- the first rule that applies: the plant's own, then the room's
abbrev pub judge_refusal : (states : ℕ) (arrows events : List ℕ) (room : ℕ) → Option Refusal
judge_refusal n xs es room = or_else (refusal n xs es) (room_refusal n room)

-- the numbers of a room from a place on, so many
abbrev pub part : (start many : ℕ) → List ℕ → List ℕ
part start many room = take many (drop start room)

-- four rows of events of these lengths, at the front of the room, hide a fault: a run with it, a run without, and their ways round; all behind them is as it was
pub record HiddenIn (p : Plant) (l : Lengths) (room room₁ : List ℕ) : Type 0 where
  pub s : ℕ
  pub t : ℕ
  pub same_length : length room₁ ≡ length room
  pub fits : l.bad + (l.good + (l.bad_round + l.good_round)) ≤ length room
  pub rest : drop (l.bad + (l.good + (l.bad_round + l.good_round))) room₁ ≡ drop (l.bad + (l.good + (l.bad_round + l.good_round))) room
  pub hides : Hides p (part 0 l.bad room₁) (part l.bad l.good room₁) (part (l.bad + l.good) l.bad_round room₁) (part (l.bad + (l.good + l.bad_round)) l.good_round room₁) s t

-- what each verdict says
-- out in k events: in k and in no smaller number, and the room is as it was
-- hidden: by four rows of these lengths
abbrev pub VerdictSays : Plant → (room : List ℕ) → Verdict → (room₁ : List ℕ) → Type 0
VerdictSays p room (Out k) room₁ = (room₁ ≡ room) × ComesOutIn p k × ((m : ℕ) → m < k → ComesOutIn p m → ⊥)
VerdictSays p room (Hidden l) room₁ = HiddenIn p l room room₁

-- an answer of the entry: a verdict, or the refusal that there is, and then the room is as it was
abbrev pub Judges : Option Refusal → Plant → (room : List ℕ) → Result Verdict Refusal → (room₁ : List ℕ) → Type 0
Judges refused p room r room₁ = Answered refused (λ v. VerdictSays p room v room₁) (room₁ ≡ room) r

-- what is said is all that can be said: one number of events, never out and hidden, one rule, never a verdict and a rule
pub record OneVerdict (refused : Option Refusal) (p : Plant) (room room₁ lent lent₁ : List ℕ) : Type 0 where
  pub one_number : (k l : ℕ) → Judges refused p room (Ok (Out k)) room₁ → Judges refused p lent (Ok (Out l)) lent₁ → k ≡ l
  pub not_both : (k : ℕ) (l : Lengths) → Judges refused p room (Ok (Out k)) room₁ → Judges refused p lent (Ok (Hidden l)) lent₁ → ⊥
  pub one_rule : (f g : Refusal) → Judges refused p room (Err f) room₁ → Judges refused p lent (Err g) lent₁ → f ≡ g
  pub one_kind : (v : Verdict) (f : Refusal) → Judges refused p room (Ok v) room₁ → Judges refused p lent (Err f) lent₁ → ⊥

abbrev pub VerdictOne : Type 0
VerdictOne = (refused : Option Refusal) (p : Plant) (room room₁ lent lent₁ : List ℕ) → OneVerdict refused p room room₁ lent lent₁
