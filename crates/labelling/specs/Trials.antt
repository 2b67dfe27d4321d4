-- Labellings in normal form: signs are numbered in the order in which they are met. These are definitions and assume nothing.
use Rattle.std.specs.Prelude.{◌≡◌, ℕ, suc, ◌+◌, ◌*◌, ◌/◌, ◌<◌, ◌≤◌, max, true, false, List, [], ◌∷◌, ◌++◌, length, take, slice_index}
use Rattle.plant.specs.Checked.{behaviour}
use Rattle.plant.specs.Plant.{Plant}
use Rattle.labelling.specs.declared.rows.Row.{Row}
use Rattle.labelling.specs.declared.trials.Trials.{Trials}
use Rattle.labelling.specs.Labels.{Does, FewestSigns, signs}

-- each number is 0, one of the signs up to u that are in use, or the next sign
unfoldable pub Grown : (u : ℕ) → List ℕ → Type 0
Grown u [] = Unit {0}
Grown u (l ∷ ls) = (l ≤ suc u) × Grown (max u l) ls

-- the last sign that is in use then
unfoldable pub top : (u : ℕ) → List ℕ → ℕ
top u [] = u
top u (l ∷ ls) = top (max u l) ls

-- ks shows the same as ls by other signs, in normal form, and has as many
pub record SameSigns (ls ks : List ℕ) : Type 0 where
  pub size : length ks ≡ length ls
  pub grown : Grown 0 ks
  pub counts : top 0 ks ≡ signs ls
  pub nothing : (e : ℕ) → slice_index ls e ≡ 0 → slice_index ks e ≡ 0
  pub nothing_back : (e : ℕ) → slice_index ks e ≡ 0 → slice_index ls e ≡ 0
  pub alike : (e d : ℕ) → slice_index ls e ≡ slice_index ls d → slice_index ks e ≡ slice_index ks d
  pub alike_back : (e d : ℕ) → slice_index ks e ≡ slice_index ks d → slice_index ls e ≡ slice_index ls d

-- every row has such a normal form; in normal form the last sign in use is how many signs there are
abbrev pub NormalForms : Type 0
NormalForms = ((ls : List ℕ) → (ks : List ℕ) × SameSigns ls ks) × ((ks : List ℕ) → Grown 0 ks → signs ks ≡ top 0 ks)

-- the first numbers are in normal form and have that many signs; the others are 0
pub record Normal (p : Plant) (at : ℕ) (l : Row) : Type 0 where
  pub size : length l.labels ≡ 64
  pub grown : Grown 0 (take at l.labels)
  pub counts : l.signs ≡ top 0 (take at l.labels)
  pub faults : (e : ℕ) → p.fault e ≡ true → slice_index l.labels e ≡ 0
  pub past : (e : ℕ) → at ≤ e → slice_index l.labels e ≡ 0

-- each of the first events that is no fault has a sign of its own
pub record Own (p : Plant) (at : ℕ) (l : Row) : Type 0 where
  pub some : (e : ℕ) → e < at → p.fault e ≡ false → 1 ≤ slice_index l.labels e
  pub only : (e d : ℕ) → 1 ≤ slice_index l.labels e → slice_index l.labels e ≡ slice_index l.labels d → e ≡ d

-- of m events: a labelling in normal form that does
pub record Sound (p : Plant) (m : ℕ) (l : Row) : Type 0 where
  pub normal : Normal p m l
  pub does : Does p (take m l.labels)

-- numbers for the other events, in normal form behind those with u signs
pub record Rest (p : Plant) (m at u : ℕ) (rest : List ℕ) : Type 0 where
  pub size : at + length rest ≡ m
  pub grown : Grown u rest
  pub faults : (k : ℕ) → p.fault (at + k) ≡ true → slice_index rest k ≡ 0

-- whatever is put behind the first numbers, from a first number below h on, has no fewer signs than k or does not do
abbrev pub NoFewerBelow : (p : Plant) (m at h : ℕ) (l : Row) (k : ℕ) → Type 0
NoFewerBelow p m at h l k =
    (rest : List ℕ) → Rest p m at l.signs rest → slice_index rest 0 < h → Does p (take at l.labels ++ rest) → k ≤ top l.signs rest

abbrev pub NoFewer : (p : Plant) (m at : ℕ) (l : Row) (k : ℕ) → Type 0
NoFewer p m at l k = (rest : List ℕ) → Rest p m at l.signs rest → Does p (take at l.labels ++ rest) → k ≤ top l.signs rest

-- the best once all is tried that goes on from the first numbers
pub record Improved (p : Plant) (m at : ℕ) (l old best : Row) : Type 0 where
  pub sound : Sound p m best
  pub below : best.signs ≤ old.signs
  pub least : NoFewer p m at l best.signs

-- so far: those whose next number is below h
pub record Improving (p : Plant) (m at h : ℕ) (l old best : Row) : Type 0 where
  pub sound : Sound p m best
  pub below : best.signs ≤ old.signs
  pub least : NoFewerBelow p m at h l best.signs

-- the numbers are those of the labelling and the marks of the events
pub record Written (es row es₁ : List ℕ) : Type 0 where
  pub signs : (e : ℕ) → slice_index es₁ (2 * e) ≡ slice_index row e
  pub marks : (e : ℕ) → slice_index es₁ (2 * e + 1) ≡ slice_index es (2 * e + 1)

-- the plant of the numbers that are lent, and how many events it has
abbrev pub plant_of : Trials → Plant
plant_of t = behaviour t.numbers

abbrev pub events_of : Trials → ℕ
events_of t = length t.numbers.events.now / 2

-- the fewest signs of all labellings
abbrev pub Least : (p : Plant) (m : ℕ) → Row → Type 0
Least p m l = FewestSigns p m (take m l.labels) l.signs
