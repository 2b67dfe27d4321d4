-- Marks in a lent list, as two sets. Assumes nothing.
use Rattle.std.proofs.Common.{◌≡◌, ℕ, suc, ◌+◌, ◌-◌, ◌*◌, ◌<◌, ◌≤◌, Bool, true, false, eqb, leb, List, [], ◌∷◌, length, get_or, take, drop, sym, refl, ap, ◌∙◌, ⊎_elim, arith, length-take}
use Rattle.std.proofs.lemmas.List.{get_or-take, get_or-drop, get_or_past}
use Rattle.std.proofs.lemmas.Bool.{and_from, cases_lt, false≢true, le-leb}
use Rattle.sets.specs.Sets.{bit, member}
use Rattle.sets.proofs.Sums.{bit_le_one}
use Rattle.observer.specs.declared.memory.Memory.{Memory}
use Rattle.observer.specs.Entry.{MarkedIn, Written, marked, marks_ok}
use Rattle.observer.specs.Marks.{Exactly, Has, holds}

-- a mark in the first k places
front_marked : (k : ℕ) (xs : List ℕ) (t : ℕ) → eqb (get_or (take k xs) t 0) 1 ≡ true → (t < k) × (eqb (get_or xs t 0) 1 ≡ true)
front_marked k xs t e =
    ⊎_elim (λ h. (h, ap (λ (x : ℕ). eqb x 1) (sym (get_or-take k xs t 0 h)) ∙ e))
    (λ h.
    let past : get_or (take k xs) t 0 ≡ 0 = get_or_past (take k xs) t 0 (omega (arith, length-take k xs)) in
    absurd (false≢true (ap (λ (x : ℕ). eqb x 1) (sym past) ∙ e)))
    (cases_lt t k)

marked_front : (k : ℕ) (xs : List ℕ) (t : ℕ) → t < k → eqb (get_or xs t 0) 1 ≡ true → eqb (get_or (take k xs) t 0) 1 ≡ true
marked_front k xs t h e = ap (λ (x : ℕ). eqb x 1) (get_or-take k xs t 0 h) ∙ e

module _ (n : ℕ) (m : List ℕ) (whole : length m ≡ 2 * n) where
  -- both halves read
  pub read_exact : (r : Memory)
      → ((s : ℕ) → member r.good.bits s ≡ eqb (get_or (take (n - 0) m) s 0) 1)
      → ((s : ℕ) → member r.bad.bits s ≡ eqb (get_or (take (length m - n) (drop n m)) s 0) 1)
      → Exactly r (MarkedIn n m)
  unfolding marked holds
  read_exact r good bad = record { sound = sound; complete = complete }
    where
      sound : (t : ℕ) (b : Bool) → Has r t b → MarkedIn n m t b
      sound t false h = let k = front_marked (n - 0) m t (sym (good t) ∙ h) in (omega (arith, k.0), k.1)
      sound t true h =
          let k = front_marked (length m - n) (drop n m) t (sym (bad t) ∙ h) in
          (omega (arith, k.0), ap (λ (x : ℕ). eqb x 1) (sym (get_or-drop n m t 0)) ∙ k.1)

      complete : (t : ℕ) (b : Bool) → MarkedIn n m t b → Has r t b
      complete t false h = good t ∙ marked_front (n - 0) m t (omega (arith, h.0)) h.1
      complete t true h =
          bad t ∙ marked_front (length m - n) (drop n m) t (omega (arith, h.0)) (ap (λ (x : ℕ). eqb x 1) (get_or-drop n m t 0) ∙ h.1)

all_ok : (xs : List ℕ) → ((i : ℕ) → i < length xs → get_or xs i 0 ≤ 1) → marks_ok xs ≡ true
unfolding marks_ok
all_ok [] h = refl
all_ok (x ∷ xs) h = and_from (leb x 1) (marks_ok xs) (le-leb x 1 (h 0 (omega arith))) (all_ok xs (λ i k. h (suc i) (omega arith)))

bit-marked : (b : Bool) → eqb (bit b) 1 ≡ b
bit-marked true = refl
bit-marked false = refl

module _ (n : ℕ) (m : List ℕ) (whole : length m ≡ 2 * n) (r : Memory) where
  -- both halves written
  pub written_ok : Written n r m → marks_ok m ≡ true
  written_ok w = all_ok m (λ i h. ⊎_elim (λ k. rw (w i k).0 (bit_le_one _)) (λ k. high i (i - n) (omega arith) (omega arith)) (cases_lt i n))
    where
      high : (i s : ℕ) → i ≡ n + s → s < n → get_or m i 0 ≤ 1
      high i s e k = rw (e, (w s k).1) (bit_le_one _)

  pub written-marks : Written n r m → (t : ℕ) (b : Bool) → t < n → marked n m t b ≡ holds r b t
  unfolding marked holds
  written-marks w t false h = ap (λ (x : ℕ). eqb x 1) (w t h).0 ∙ bit-marked (member r.good.bits t)
  written-marks w t true h = ap (λ (x : ℕ). eqb x 1) (w t h).1 ∙ bit-marked (member r.bad.bits t)
