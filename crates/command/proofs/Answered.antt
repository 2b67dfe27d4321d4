-- Lines for words, one more. Assumes nothing.
use Rattle.std.proofs.Common.{◌≡◌, ℕ, zero, suc, ◌+◌, ◌<◌, ◌≤◌, List, [], ◌∷◌, ◌++◌, map, length, get_or, drop, Ok, Err, string_bytes, codes, Result, String, sym, refl, ap, ◌∙◌, subst, append_assoc, append-nil, arith}
use Rattle.std.proofs.lemmas.List.{length-map, get_or-map, drop_more, drop_all}
use Rattle.plant.specs.Plant.{Plant}
use Rattle.plant.specs.Model.{model}
use Rattle.observer.specs.Marks.{Right}
use Rattle.plant.specs.declared.parts.Refusal.{Refusal}
use Rattle.observer.specs.declared.memory.Memory.{Memory}
use Rattle.observer.specs.declared.words.Word.{Word}
use Rattle.command.specs.declared.listening.Listener.{Listener}
use Rattle.command.proofs.Heard.{LinesSoFar}
use Rattle.command.specs.Lines.{Hears, LineFor, LinesFor, counted, line, signs_after}
use Rattle.command.specs.Signs.{sign_of}

-- what one word makes of signs after which the memory was right
record Goes_on (p : Plant) (os : List ℕ) (said : Result ℕ Refusal) (m₁ : Memory) (l : Result Word Refusal) : Type 0 where
  right : Right p (signs_after os said) m₁
  for : LineFor p os said l

goes_on : (p : Plant) (os : List ℕ) (said : Result ℕ Refusal) (m m₁ : Memory) (l : Result Word Refusal) → Right p os m → Hears p said m m₁ l → Goes_on p os said m₁ l
goes_on p os (Ok zero) m m₁ l right h =
    let f = h.2.anew refl in
    record { right = f.right; for = (h.0, h.1, f.said) }
goes_on p os (Ok (suc o)) m m₁ l right h =
    let f = h.2.next (omega arith) os right in
    record { right = f.right; for = (h.0, h.1, f.said) }
goes_on p os (Err u) m m₁ l right h = record { right = subst (Right p os) (sym h.1) right; for = h.0 }

-- before any word
pub begun : (p : Plant) (listener : Listener) (ws : List (List ℕ)) (bytes : List ℕ) → model listener.follower.plant ≡ p → Right p [] listener.follower.memory → listener.place ≡ 0 → bytes ≡ [] → LinesSoFar p listener (drop 0 ws) ws bytes
begun p listener ws bytes plant right first none =
    record {
      plant = plant;
      signs = [];
      right = right;
      whole = λ rest h. subst (λ b. LinesFor p 0 [] ws (b ++ rest)) (sym none) (subst (λ k. LinesFor p k [] ws rest) first h);
    }

-- one word more
one_more :
    (p : Plant) (before after : Listener) (w : List ℕ) (ws all : List (List ℕ)) (l : Result Word Refusal) (bytes bytes₁ : List ℕ) → LinesSoFar p before (w ∷ ws) all bytes
    → after.follower.plant ≡ before.follower.plant
    → Hears (model before.follower.plant) (sign_of before.place w) before.follower.memory after.follower.memory l → after.place ≡ counted before.place
    → bytes₁ ≡ bytes ++ (line l ++ codes "\n") → LinesSoFar p after ws all bytes₁
one_more p before after w ws all l bytes bytes₁ s same hears next more =
    let g = goes_on p s.signs (sign_of before.place w) _ after.follower.memory l s.right (subst (λ q. Hears q (sign_of before.place w) before.follower.memory after.follower.memory l) s.plant hears) in
    record {
      plant = ap model same ∙ s.plant;
      signs = signs_after s.signs (sign_of before.place w);
      right = g.right;
      whole = λ rest h.
          let all_of = s.whole (line l ++ (codes "\n" ++ rest)) (l, rest, g.for, refl, subst (λ k. LinesFor p k (signs_after s.signs (sign_of before.place w)) ws rest) next h) in
          subst (LinesFor p 0 [] all) (joins rest) all_of;
    }
  where
    joins : (rest : List ℕ) → bytes ++ (line l ++ (codes "\n" ++ rest)) ≡ bytes₁ ++ rest
    joins rest = ap (λ b. bytes ++ b) (sym (append_assoc (line l) (codes "\n") rest)) ∙ sym (append_assoc bytes (line l ++ codes "\n") rest) ∙ ap (λ b. b ++ rest) (sym more)

-- the same of the word that comes next, as it is lent
pub next_more :
    (p : Plant) (before after : Listener) (w heard : List ℕ) (to_come ws all : List (List ℕ)) (l : Result Word Refusal) (bytes bytes₁ : List ℕ) → to_come ≡ w ∷ ws → heard ≡ w
    → LinesSoFar p before to_come all bytes → after.follower.plant ≡ before.follower.plant
    → Hears (model before.follower.plant) (sign_of before.place heard) before.follower.memory after.follower.memory l → after.place ≡ counted before.place
    → bytes₁ ≡ bytes ++ (line l ++ codes "\n") → LinesSoFar p after ws all bytes₁
next_more p before after w heard to_come ws all l bytes bytes₁ first is s same hears next more =
    one_more p before after w ws all l bytes bytes₁ (subst (λ v. LinesSoFar p before v all bytes) first s) same
    (subst (λ v. Hears (model before.follower.plant) (sign_of before.place v) before.follower.memory after.follower.memory l) is hears) next more

-- no word is left
pub ended : (p : Plant) (listener : Listener) (ws all : List (List ℕ)) (bytes : List ℕ) → ws ≡ [] → LinesSoFar p listener ws all bytes → LinesFor p 0 [] all bytes
ended p listener ws all bytes none s = subst (LinesFor p 0 [] all) (append-nil bytes) (s.whole [] (subst (λ v. LinesFor p listener.place s.signs v []) (sym none) refl))

module _ {Z : Type 0} (ns : List (String Z)) (i : ℕ) where
  pub words_more : (x : String Z) → i < length ns → x ≡ get_or ns i x → drop i (map string_bytes ns) ≡ string_bytes x ∷ drop (i + 1) (map string_bytes ns)
  words_more x lt is =
      drop_more (map string_bytes ns) i [] (omega (arith, length-map ns string_bytes)) ∙ ap (λ w. w ∷ drop (i + 1) (map string_bytes ns)) (get_or-map string_bytes ns i x [] lt ∙ ap string_bytes (sym is))

  pub words_all : length ns ≤ i → drop i (map string_bytes ns) ≡ []
  words_all le = drop_all i (map string_bytes ns) (omega (arith, length-map ns string_bytes))
