-- The word for what may be, and what it says is known. These are definitions and assume nothing.
use Rattle.std.specs.Prelude.{◌≡◌, ℕ, ◌≤◌, Bool, true, false, List, [], ◌∷◌, codes}
use Rattle.plant.specs.Plant.{Plant, Known, bad, good, either, neither, Knows}
use Rattle.observer.specs.declared.words.Word.{Word}
use Rattle.observer.specs.declared.words.Word.TheVariants.{Bad, Good, Either, Neither}
use Rattle.observer.specs.declared.memory.Memory.{Memory}
use Rattle.observer.specs.Marks.{Has, Right}

unfoldable pub word_of : (good-too bad-too : Bool) → Word
word_of true true = Either
word_of true false = Good
word_of false true = Bad
word_of false false = Neither

-- how it is written
abbrev pub spoken : Word → List ℕ
spoken Bad = codes "bad"
spoken Good = codes "good"
spoken Either = codes "either"
spoken Neither = codes "neither"

unfoldable pub word_known : Word → Known → Type 0
word_known Bad k = k ≡ bad
word_known Good k = k ≡ good
word_known Either k = k ≡ either
word_known Neither k = k ≡ neither

-- the word is what is known after the signs
abbrev pub Said : Plant → List ℕ → Word → Type 0
Said p os w = (k : Known) × word_known w k × Knows p os k

-- the word for a choice of what there is: something with a fault (true), something without one (false)
unfoldable pub Tells : (Bool → Type 0) → Word → Type 0
Tells P Bad = P true × (P false → ⊥)
Tells P Good = P false × (P true → ⊥)
Tells P Either = P true × P false
Tells P Neither = (P true → ⊥) × (P false → ⊥)

-- some state has a mark
abbrev pub SomeMarked : Memory → Bool → Type 0
SomeMarked m b = (t : ℕ) × Has m t b

-- right after these signs, and the word is what is known
pub record FollowedTo (p : Plant) (os : List ℕ) (m : Memory) (w : Word) : Type 0 where
  pub right : Right p os m
  pub said : Said p os w

-- what a sign makes of a memory, and the word then: sign 0 begins anew, any other comes behind the signs after which the memory was right
pub record Heard (p : Plant) (sign : ℕ) (m m₁ : Memory) (w : Word) : Type 0 where
  pub anew : sign ≡ 0 → FollowedTo p [] m₁ w
  pub next : 1 ≤ sign → (os : List ℕ) → Right p os m → FollowedTo p (sign ∷ os) m₁ w
