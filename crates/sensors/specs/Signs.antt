-- Signs in the numbers of events, two for each. These are definitions and assume nothing.
use Rattle.std.specs.Prelude.{◌≡◌, ℕ, ◌+◌, ◌*◌, ◌/◌, ◌<◌, ◌≤◌, Bool, true, false, List, length, ◌≢◌, slice_index, slice_set}

-- some event shows the sign
abbrev pub InUse : (events : List ℕ) (sign : ℕ) → Type 0
InUse es o = (e : ℕ) × (e < length es / 2) × (slice_index es (2 * e) ≡ o)

-- the least sign that no event shows
pub record Unused (es : List ℕ) (o : ℕ) : Type 0 where
  pub some : 1 ≤ o
  pub small : o ≤ 255
  pub free : InUse es o → ⊥
  pub least : (k : ℕ) → 1 ≤ k → k < o → InUse es k

-- event e was given such a sign
pub record Given (es : List ℕ) (e : ℕ) (es₁ : List ℕ) : Type 0 where
  pub sign : ℕ
  pub unused : Unused es sign
  pub is : es₁ ≡ slice_set es (2 * e) sign

-- the events of the set have signs of their own, the others are as they were
pub record Signed (es : List ℕ) (chosen : ℕ → Bool) (es₁ : List ℕ) : Type 0 where
  pub size : length es₁ ≡ length es
  pub small : ((e : ℕ) → slice_index es (2 * e) ≤ 255) → (e : ℕ) → slice_index es₁ (2 * e) ≤ 255
  pub faults : (e : ℕ) → slice_index es₁ (2 * e + 1) ≡ slice_index es (2 * e + 1)
  pub others : (e : ℕ) → chosen e ≡ false → slice_index es₁ (2 * e) ≡ slice_index es (2 * e)
  pub something : (e : ℕ) → chosen e ≡ true → slice_index es₁ (2 * e) ≢ 0
  pub own : (e d : ℕ) → chosen e ≡ true → slice_index es₁ (2 * d) ≡ slice_index es₁ (2 * e) → d ≡ e

-- numbers written over the front of zeros
pub record Padded (xs zs : List ℕ) (size : ℕ) : Type 0 where
  pub size_is : length zs ≡ size
  pub same : (k : ℕ) → slice_index zs k ≡ slice_index xs k
