-- What is answered for a text. These are definitions and assume nothing.
use Rattle.std.specs.Prelude.{◌≡◌, ℕ, List, Some, None, Ok, Err, vec_items, string_bytes, Option, Result, String}
use Rattle.std.specs.declared.alloc.Global.{Global}
use Rattle.plant.specs.Plant.{Plant}
use Rattle.plant.specs.Numbers.{plant_in}
use Rattle.plant.specs.declared.parts.Refusal.{Refusal}
use Rattle.plant.specs.declared.parts.Refusal.TheVariants.{Text}
use Rattle.diagnosability.specs.Verdict.{VerdictSays}
use Rattle.diagnosability.specs.declared.verdict.Verdict.{Verdict}
use Rattle.sorts.specs.declared.kinds.Faults.{Faults}
use Rattle.sorts.specs.Held.{numbers_in}
use Rattle.sorts.specs.Refusals.{plant_refusal}
use Rattle.sorts.specs.Sorts as sorts
use Rattle.drawing.specs.Drawn.{Drawn, drawn}
use Rattle.drawing.specs.Numbers.{states_of, arrow_numbers, event_numbers}
use Rattle.drawing.specs.Reads.{reading}
use Rattle.wording.specs.Sentences.{sentence}
use Rattle.wording.specs.declared.troubles.Trouble.{Trouble}
use Rattle.wording.specs.declared.troubles.Trouble.TheVariants.{Refused, NoMemory}
use Rattle.command.specs.declared.valid.Opened.{Opened}

-- the plant that is drawn, by what counts as a fault: all faults, or those of one sort
abbrev pub plant_of : Faults → Drawn → Plant
plant_of f d = sorts.plant_of f (arrow_numbers d) (event_numbers d)

-- the first of the plant's own rules that turns it away
abbrev pub drawn_refusal : Faults → Drawn → Option Refusal
drawn_refusal f d = plant_refusal f (states_of d) (arrow_numbers d) (event_numbers d)

-- a text that cannot be read is turned away at that line, whatever else is wrong; then the rules for what it draws are tried
abbrev pub text_refusal : (Drawn → Option Refusal) → Result Drawn ℕ → Option Refusal
text_refusal rules (Ok d) = rules d
text_refusal rules (Err n) = Some (Text n)

-- an answer for a text: A says of the drawing that it is right; a refusal is the one that there is; and want of memory says nothing
abbrev pub Answers : {X : Type 0} → (Drawn → Option Refusal) → (Drawn → X → Type 0) → List ℕ → Result X Trouble → Type 0
Answers rules A bs (Ok x) = (d : Drawn) × (reading bs ≡ Ok d) × (rules d ≡ None) × A d x
Answers rules A bs (Err (Refused r)) = text_refusal rules (reading bs) ≡ Some r
Answers rules A bs (Err NoMemory) = Unit {0}

-- the plant that the numbers of what was opened make
abbrev pub opened_plant : Opened → Plant
opened_plant o = plant_in (vec_items o.arrows) (numbers_in o.marked)

-- the drawing and its numbers
pub record OpenedAs (f : Faults) (d : Drawn) (o : Opened) : Type 0 where
  pub drawing : drawn o.drawing ≡ d
  pub states : o.states ≡ states_of d
  pub arrows : vec_items o.arrows ≡ arrow_numbers d
  pub events : vec_items o.events ≡ event_numbers d
  pub plant : opened_plant o ≡ plant_of f d

-- a verdict holds of a plant, its rows standing in this room
pub record Holds (p : Plant) (verdict : Verdict) (room : List ℕ) : Type 0 where
  pub lent : List ℕ
  pub says : VerdictSays p lent verdict room

-- the sentence of a verdict that holds of the plant
pub record Judged (ws : List (List ℕ)) (p : Plant) (bytes : List ℕ) : Type 0 where
  pub verdict : Verdict
  pub room : List ℕ
  pub holds : Holds p verdict room
  pub text : bytes ≡ sentence ws verdict room

abbrev pub SentenceFor : Faults → Drawn → String Global → Type 0
SentenceFor f d s = Judged d.labels (plant_of f d) (string_bytes s)
