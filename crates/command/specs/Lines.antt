-- The line that is printed for a word. These are definitions and assume nothing.
use Rattle.std.specs.Prelude.{◌≡◌, ℕ, zero, suc, ◌+◌, ◌-◌, ◌^◌, min, List, [], ◌∷◌, ◌++◌, Ok, Err, codes, Result}
use Rattle.plant.specs.Plant.{Plant}
use Rattle.plant.specs.declared.parts.Refusal.{Refusal}
use Rattle.plant.specs.Refusals.{turned_away}
use Rattle.observer.specs.declared.memory.Memory.{Memory}
use Rattle.observer.specs.declared.words.Word.{Word}
use Rattle.observer.specs.Words.{Heard, Said as KnownAfter, spoken}
use Rattle.command.specs.Signs.{sign_of}

-- the bytes of a line: what is known, or the rule and the place
abbrev pub line : Result Word Refusal → List ℕ
line (Ok w) = spoken w
line (Err r) = turned_away r

-- one word more; the count stops where it can go no further
abbrev pub counted : ℕ → ℕ
counted k = min (k + 1) (2 ^ 64 - 1)

-- by what the word says: the memory and the answer follow the sign, or the memory stays and the answer is why there is none
abbrev pub Hears : Plant → Result ℕ Refusal → (m m₁ : Memory) → Result Word Refusal → Type 0
Hears p (Ok o) m m₁ l = (w : Word) × (l ≡ Ok w) × Heard p o m m₁ w
Hears p (Err r) m m₁ l = (l ≡ Err r) × (m₁ ≡ m)

-- the signs since following began, with the latest first: sign 0 begins anew, and a word that is no sign changes nothing
abbrev pub signs_after : List ℕ → Result ℕ Refusal → List ℕ
signs_after os (Ok zero) = []
signs_after os (Ok (suc o)) = suc o ∷ os
signs_after os (Err r) = os

-- the answer for a word, by what it says: the word that is known after the signs so far, or why it says none
abbrev pub LineFor : Plant → (os : List ℕ) → Result ℕ Refusal → Result Word Refusal → Type 0
LineFor p os (Ok o) l = (w : Word) × (l ≡ Ok w) × KnownAfter p (signs_after os (Ok o)) w
LineFor p os (Err r) l = l ≡ Err r

-- a line for each word, those before it having been k, with the signs os
abbrev pub LinesFor : Plant → (k : ℕ) → (os : List ℕ) → List (List ℕ) → List ℕ → Type 0
LinesFor p k os [] bytes = bytes ≡ []
LinesFor p k os (w ∷ ws) bytes =
    (l : Result Word Refusal) × (rest : List ℕ) × LineFor p os (sign_of k w) l × (bytes ≡ line l ++ (codes "\n" ++ rest)) × LinesFor p (counted k) (signs_after os (sign_of k w)) ws rest
