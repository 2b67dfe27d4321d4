-- What is said of foretelling, and what is left in the room that was lent. A reader has to believe these definitions; they assume nothing.
use Rattle.std.specs.Prelude.{◌≡◌, ℕ, ◌+◌, ◌≤◌, min, List, ◌++◌, length, drop, Some, None, Option, Result}
use Rattle.plant.specs.declared.parts.Refusal.{Refusal}
use Rattle.plant.specs.Checked.{Answered}
use Rattle.plant.specs.Plant.{Plant, seen}
use Rattle.diagnosability.specs.Verdict.{part}
use Rattle.foretelling.specs.Foretelling.{Alarm, Foretells, Misses}
use Rattle.predictability.specs.declared.missed.Missed.{Missed}

-- four rows at the front of the room, of the lengths that are said: a run without a fault, a fault that can happen after it, another run without a fault that shows the same, and events without a fault that it can go on by, as many as n or as there are states, whichever is less
-- so no first part of the run has an alarm, and the fault is not foretold; all behind the rows is as it was
pub record MissedIn (p : Plant) (states n : ℕ) (m : Missed) (room room₁ : List ℕ) : Type 0 where
  pub same_length : length room₁ ≡ length room
  pub fits : m.run + (m.fault + (m.other + m.later)) ≤ length room
  pub rest : drop (m.run + (m.fault + (m.other + m.later))) room₁ ≡ drop (m.run + (m.fault + (m.other + m.later))) room
  pub misses : Misses p (part 0 m.run room₁) (part m.run m.fault room₁) (part (m.run + m.fault) m.other room₁) (part (m.run + (m.fault + m.other)) m.later room₁)
  pub one : m.fault ≡ 1
  pub many : m.later ≡ min n states
  pub unwarned : (late early : List ℕ) → part 0 m.run room₁ ≡ late ++ early → Alarm p n (seen p early) → ⊥
  pub not_foretold : Foretells p n → ⊥

-- each fault is foretold, in n events, and the room is as it was; or one is not, by four rows of these lengths
abbrev pub MissedSays : Plant → (states n : ℕ) → (room : List ℕ) → Option Missed → (room₁ : List ℕ) → Type 0
MissedSays p states n room None room₁ = (room₁ ≡ room) × Foretells p n
MissedSays p states n room (Some m) room₁ = MissedIn p states n m room room₁

-- an answer of the entry: that, or the refusal that there is, and then the room is as it was
abbrev pub ForesightSays : Option Refusal → Plant → (states n : ℕ) → (room : List ℕ) → Result (Option Missed) Refusal → (room₁ : List ℕ) → Type 0
ForesightSays refused p states n room r room₁ = Answered refused (λ m. MissedSays p states n room m room₁) (room₁ ≡ room) r
