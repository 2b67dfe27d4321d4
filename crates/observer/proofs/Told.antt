-- The word for what may be is what is known. Assumes nothing.
use Rattle.std.proofs.Common.{◌≡◌, ℕ, ◌<◌, Bool, true, false, not, List, refl}
use Rattle.std.proofs.lemmas.Bool.{both_ways, not-true as flip-true, not-false as flip-false}
use Rattle.sets.specs.Sets.{member}
use Rattle.plant.specs.Plant.{Plant, bad, good, either, neither, May, Knows}
use Rattle.observer.specs.declared.memory.Memory.{Memory}
use Rattle.observer.specs.declared.words.Word.{Word}
use Rattle.observer.specs.declared.words.Word.TheVariants.{Bad, Good, Either, Neither}
use Rattle.observer.specs.Marks.{holds, Comes, Right}
use Rattle.observer.specs.Words.{word_of, word_known, Said, Tells, SomeMarked}

-- the same of two choices that come to the same
pub tells_same : {P Q : Bool → Type 0} → ((b : Bool) → P b → Q b) → ((b : Bool) → Q b → P b) → (w : Word) → Tells P w → Tells Q w
unfolding Tells
tells_same to back Bad t = (to true t.0, λ q. t.1 (back false q))
tells_same to back Good t = (to false t.0, λ q. t.1 (back true q))
tells_same to back Either t = (to true t.0, to false t.1)
tells_same to back Neither t = (λ q. t.0 (back true q), λ q. t.1 (back false q))

pub tells_said : (p : Plant) (os : List ℕ) (w : Word) → Tells (May p os) w → Said p os w
unfolding Tells word_known Knows
tells_said p os Bad t = (bad, refl, t)
tells_said p os Good t = (good, refl, t)
tells_said p os Either t = (either, refl, t)
tells_said p os Neither t = (neither, refl, t)

-- marks that are right tell what is known
pub right_said : (p : Plant) (os : List ℕ) (m : Memory) (w : Word) → Tells (SomeMarked m) w → Right p os m → Said p os w
unfolding May Comes
right_said p os m w t right =
    tells_said p os w (tells_same (λ b k. let r = right.sound k.0 b k.1 in (r.0, k.0, r.1, r.2, r.3)) (λ b k. (k.1, right.complete k.1 b (k.0, k.2, k.3, k.4))) w t)

not-true : (b : Bool) → (b ≡ true → ⊥) → b ≡ false
not-true true h = absurd (h refl)
not-true false h = refl

-- the word for tests, and back
pub word_tells : (P : Bool → Type 0) (g b : Bool) → (g ≡ true → P false) → (g ≡ false → P false → ⊥) → (b ≡ true → P true) → (b ≡ false → P true → ⊥) → Tells P (word_of g b)
unfolding Tells word_of
word_tells P true true g g' b b' = (b refl, g refl)
word_tells P true false g g' b b' = (g refl, b' refl)
word_tells P false true g g' b b' = (b refl, g' refl)
word_tells P false false g g' b b' = (b' refl, g' refl)

pub tells_word : (f : Bool → Bool) (w : Word) → Tells (λ b. f b ≡ true) w → w ≡ word_of (f false) (f true)
unfolding Tells word_of
tells_word f Bad t = rw (t.0, not-true (f false) t.1) refl
tells_word f Good t = rw (t.0, not-true (f true) t.1) refl
tells_word f Either t = rw (t.0, t.1) refl
tells_word f Neither t = rw (not-true (f true) t.0, not-true (f false) t.1) refl

-- the word for two sets, by whether they are empty
pub sets_tell : (m : Memory) (g b : Bool)
    → (g ≡ true → (k : ℕ) → member m.good.bits k ≡ false) → (g ≡ false → (k : ℕ) × (k < 32) × (member m.good.bits k ≡ true))
    → (b ≡ true → (k : ℕ) → member m.bad.bits k ≡ false) → (b ≡ false → (k : ℕ) × (k < 32) × (member m.bad.bits k ≡ true))
    → Tells (SomeMarked m) (word_of (not g) (not b))
unfolding holds
sets_tell m g b no-good some_Good no-bad some-bad =
    word_tells (SomeMarked m) (not g) (not b)
    (λ e. let k = some_Good (flip-true g e) in (k.0, k.2))
    (λ e k. both_ways _ (no-good (flip-false g e) k.0) k.1)
    (λ e. let k = some-bad (flip-true b e) in (k.0, k.2))
    (λ e k. both_ways _ (no-bad (flip-false b e) k.0) k.1)
