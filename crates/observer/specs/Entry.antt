-- What the entry answers and leaves behind, over the numbers that it is lent, and what that comes to sign by sign. These are definitions and a statement; they assume nothing.
use Rattle.std.specs.Prelude.{◌≡◌, ℕ, zero, suc, ◌+◌, ◌*◌, ◌<◌, ◌≤◌, Bool, true, false, cond, ◌&&◌, ◌||◌, List, [], ◌∷◌, length, None, ◌==◌, nat_le, slice_index}
use Rattle.sets.specs.Sets.{bit, member}
use Rattle.plant.specs.Plant.{Plant, Run, seen, faulty}
use Rattle.plant.specs.Theorems.{Within}
use Rattle.observer.specs.declared.memory.Memory.{Memory}
use Rattle.observer.specs.declared.words.Word.{Word}
use Rattle.observer.specs.Words.{word_of, Said}
use Rattle.observer.specs.Refusals.{marks_refusal}

-- a lent memory has a mark for each state without a fault, and behind these one for each state with a fault
unfoldable pub marked : (states : ℕ) → List ℕ → ℕ → Bool → Bool
marked n m t b = slice_index m (cond b (n + t) t) == 1

-- the marks of a lent memory
abbrev pub MarkedIn : (states : ℕ) → List ℕ → ℕ → Bool → Type 0
MarkedIn n m t b = (t < n) × (marked n m t b ≡ true)

-- each place of a lent memory is 1 where these marks have its state, and 0 elsewhere
abbrev pub Written : (states : ℕ) → Memory → List ℕ → Type 0
Written n r m = (t : ℕ) → t < n → (slice_index m t ≡ bit (member r.good.bits t)) × (slice_index m (n + t) ≡ bit (member r.bad.bits t))

unfoldable pub marks_ok : List ℕ → Bool
marks_ok [] = true
marks_ok (x ∷ xs) = nat_le x 1 && marks_ok xs

-- from what may be, by a run that shows this sign and nothing else; sign 0 begins anew
unfoldable pub LeadsTo : (states : ℕ) → Plant → (memory : List ℕ) → ℕ → ℕ → Bool → Type 0
LeadsTo n p m zero u b = (es : List ℕ) × Run p 0 es u × (seen p es ≡ []) × (faulty p es ≡ b)
LeadsTo n p m (suc o) u b =
    (t : ℕ) × (c : Bool) × (es : List ℕ) × (t < n) × (marked n m t c ≡ true) × Run p t es u × (seen p es ≡ suc o ∷ []) × ((c || faulty p es) ≡ b)

-- some state below t has a mark
unfoldable pub some_marked : (states : ℕ) → List ℕ → Bool → ℕ → Bool
some_marked n m b zero = false
some_marked n m b (suc t) = marked n m t b || some_marked n m b t

-- the memory left has just the marks to which the sign leads, and the word is read off it
unfoldable pub WordSays : (states : ℕ) → Plant → (memory : List ℕ) → (sign : ℕ) → Word → (memory₁ : List ℕ) → Type 0
WordSays n p m o r m₁ =
    (length m₁ ≡ 2 * n) × (marks_ok m₁ ≡ true)
    × ((u : ℕ) (b : Bool) → u < n → marked n m₁ u b ≡ true → LeadsTo n p m o u b) × ((u : ℕ) (b : Bool) → u < n → LeadsTo n p m o u b → marked n m₁ u b ≡ true)
    × (r ≡ word_of (some_marked n m₁ false n) (some_marked n m₁ true n))

-- followed from the beginning: a memory and a word for each sign, the latest sign first
pub data Followed (n : ℕ) (p : Plant) : List ℕ → List ℕ → Word → Type 0 where
  begun : (m m₁ : List ℕ) (w : Word) → WordSays n p m 0 w m₁ → Followed n p [] m₁ w
  sign : (os : List ℕ) (m m₁ : List ℕ) (w v : Word) (o : ℕ) → 1 ≤ o → Followed n p os m w → WordSays n p m o v m₁ → Followed n p (o ∷ os) m₁ v

-- then the word is what is known after the signs
unfoldable pub FollowedRight : Type 0
FollowedRight = (n : ℕ) (p : Plant) (os m : List ℕ) (w : Word) → Within n p → 1 ≤ n → Followed n p os m w → Said p os w

-- a memory that was left is taken with the next sign
unfoldable pub LeftTaken : Type 0
LeftTaken = (n : ℕ) (p : Plant) (m : List ℕ) (o : ℕ) (w : Word) (m₁ : List ℕ) → WordSays n p m o w m₁ → marks_refusal n m₁ ≡ None
