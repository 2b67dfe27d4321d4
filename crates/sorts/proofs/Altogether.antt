-- One sort and faults altogether. Assumes nothing.
use Rattle.std.proofs.Common.{◌≡◌, ℕ, ◌+◌, ◌*◌, ◌≤◌, Bool, true, false, cond, ◌||◌, eqb, ◌⊎◌, List, [], ◌∷◌, ◌++◌, length, get_or, sym, refl, ◌∙◌, inl, inr, ⊎_elim, arith}
use Rattle.std.proofs.lemmas.List.{get_or_past}
use Rattle.std.proofs.lemmas.Bool.{cases_eq, cases_lt, eq-eqb, eqb-true, false≢true, lt-ltb, ltb-false, ltb-true, ne_eqb, or_cases, or_left, or_parts, or_right}
use Rattle.graph.specs.Member.{Among, there}
use Rattle.graph.proofs.Member.{among_cases, among_eq, none_among}
use Rattle.plant.specs.declared.parts.Arrow.{Arrow}
use Rattle.plant.specs.Plant.{Plant, Run, stands, goes, seen, faulty, May, ComesOutIn}
use Rattle.plant.specs.Numbers.{arrows_in}
use Rattle.sorts.specs.declared.kinds.Faults.TheVariants.{Sort, Any}
use Rattle.sorts.specs.Sorts.{is_fault, occurs, plant_of, sort_of}
use Rattle.sorts.proofs.Looking.{occurs_here}
use Rattle.sorts.specs.Theorems.{Alone, Greatest, OnlySort, arrows_of, with_arrows}

-- a plant that shows the same and has at least the arrows
module _ (p q : Plant) (shows : (e : ℕ) → p.shows e ≡ q.shows e) (arrows : (a : Arrow) → Among a p.arrows → Among a q.arrows) where
  run_there : {s t : ℕ} {es : List ℕ} → Run p s es t → Run q s es t
  run_there stands = stands
  run_there (goes es t e u r m) = goes es t e u (run_there r) (arrows _ m)

  seen_there : (es : List ℕ) → seen p es ≡ seen q es
  unfolding seen
  seen_there [] = refl
  seen_there (e ∷ es) = rw (shows e, seen_there es)

-- an event whose sort is k or none
module _ (k : ℕ) (some : 1 ≤ k) (es : List ℕ) where
  counts_same : (m : ℕ) → (m ≡ 0) ⊎ (m ≡ k) → is_fault Any m ≡ is_fault (Sort k) m
  counts_same m (inl z) = rw z (sym (ne_eqb 0 k (λ e. omega arith)))
  counts_same m (inr e) = lt-ltb 0 m (omega arith) ∙ sym (eq-eqb m k e)

  -- arrows that are kept are of sort k or of none, and were there before
  kept_sort : (ways : List Arrow) (a : Arrow) → Among a (arrows_of k es ways) → (sort_of es a.event ≡ 0) ⊎ (sort_of es a.event ≡ k)
  unfolding arrows_of
  kept_sort [] a m = absurd (none_among m)
  kept_sort (b ∷ ways) a m = by_test (eqb (sort_of es b.event) 0 || eqb (sort_of es b.event) k) refl m (kept_sort ways a)
    where
      told : (m : ℕ) → (eqb m 0 || eqb m k) ≡ true → (m ≡ 0) ⊎ (m ≡ k)
      told m h = ⊎_elim (λ z. inl (eqb-true m 0 z)) (λ e. inr (eqb-true m k e)) (or_cases (eqb m 0) (eqb m k) h)

      at_head : {xs : List Arrow} → Among a (b ∷ xs) → (sort_of es b.event ≡ 0) ⊎ (sort_of es b.event ≡ k) → (Among a xs → (sort_of es a.event ≡ 0) ⊎ (sort_of es a.event ≡ k)) → (sort_of es a.event ≡ 0) ⊎ (sort_of es a.event ≡ k)
      at_head m own later = ⊎_elim (λ e. rw e own) later (among_cases m)

      by_test : (t : Bool) → (eqb (sort_of es b.event) 0 || eqb (sort_of es b.event) k) ≡ t → Among a (cond t (b ∷ arrows_of k es ways) (arrows_of k es ways))
          → (Among a (arrows_of k es ways) → (sort_of es a.event ≡ 0) ⊎ (sort_of es a.event ≡ k)) → (sort_of es a.event ≡ 0) ⊎ (sort_of es a.event ≡ k)
      by_test true h m later = at_head m (told (sort_of es b.event) h) later
      by_test false h m later = later m

  kept_there : (ways : List Arrow) (a : Arrow) → Among a (arrows_of k es ways) → Among a ways
  unfolding arrows_of
  kept_there [] a m = absurd (none_among m)
  kept_there (b ∷ ways) a m = by_test (eqb (sort_of es b.event) 0 || eqb (sort_of es b.event) k) m (kept_there ways a)
    where
      at_head : {xs : List Arrow} → Among a (b ∷ xs) → (Among a xs → Among a ways) → Among a (b ∷ ways)
      at_head m later = ⊎_elim (λ e. among_eq ways e) (λ n. there b ways (later n)) (among_cases m)

      by_test : (t : Bool) → Among a (cond t (b ∷ arrows_of k es ways) (arrows_of k es ways)) → (Among a (arrows_of k es ways) → Among a ways) → Among a (b ∷ ways)
      by_test true m later = at_head m later
      by_test false m later = there b ways (later m)

  module _ (xs : List ℕ) where
    abbrev all_faults : Plant
    all_faults = plant_of Any xs es

    abbrev one_sort : Plant
    one_sort = plant_of (Sort k) xs es

    abbrev others_out : Plant
    others_out = with_arrows all_faults (arrows_of k es all_faults.arrows)

    -- along the arrows that are kept a fault is one of sort k
    fault_same : {s t : ℕ} {fs : List ℕ} → Run others_out s fs t → faulty others_out fs ≡ faulty one_sort fs
    unfolding faulty plant_of
    fault_same stands = refl
    fault_same (goes fs t e u r m) = rw (counts_same (sort_of es e) (kept_sort (arrows_in xs) _ m), fault_same r)

    -- and so it is in the early part of a run
    early_same : {s t : ℕ} {fs : List ℕ} → Run others_out s fs t → (late early : List ℕ) → fs ≡ late ++ early → faulty others_out early ≡ faulty one_sort early
    early_same {fs = fs} r [] early h = rw (← h) (fault_same r)
    early_same stands (x ∷ late) early h = let z : ◌≡◌ {A = ℕ} 0 1 = cc in absurd (omega arith)
    early_same (goes fs t e u r m) (x ∷ late) early h = let tail : fs ≡ late ++ early = cc in early_same r late early tail

    -- a run without any fault has none of sort k
    fine_sort : (fs : List ℕ) → faulty all_faults fs ≡ false → faulty one_sort fs ≡ false
    unfolding faulty plant_of
    fine_sort [] h = refl
    fine_sort (e ∷ fs) h =
        let parts = or_parts (is_fault Any (sort_of es e)) (faulty all_faults fs) h in
        let none = ltb-false 0 (sort_of es e) parts.0 in
        rw (ne_eqb (sort_of es e) k (λ q. omega arith), fine_sort fs parts.1)

pub alone : Alone
unfolding ComesOutIn May plant_of
alone k xs es n some out late early t r bad long may =
    let p = others_out k some es xs in
    let q = one_sort k some es xs in
    let ways = kept_there k some es (arrows_in xs) in
    let same = seen_there p q (λ e. refl) ways in
    out late early t (run_there p q (λ e. refl) ways r) (sym (early_same k some es xs r late early refl) ∙ bad) long
    (may.0, may.1, run_there p q (λ e. refl) ways may.2, sym (same may.0) ∙ may.3 ∙ same (late ++ early), sym (fault_same k some es xs may.2) ∙ may.4)

sort_occurs : (es : List ℕ) (e : ℕ) → 1 ≤ sort_of es e → occurs (sort_of es e) es ≡ true
sort_occurs es e some =
    ⊎_elim (λ here. occurs_here (sort_of es e) es (2 * e + 1) here (omega arith) refl) (λ past. absurd (omega (arith, get_or_past es (2 * e + 1) 0 past))) (cases_lt (2 * e + 1) (length es))

-- a fault is of some sort
record OfSort (xs es fs : List ℕ) : Type 0 where
  sort : ℕ
  some : 1 ≤ sort
  there' : occurs sort es ≡ true
  bad : faulty (plant_of (Sort sort) xs es) fs ≡ true

some_sort : (xs es fs : List ℕ) → faulty (plant_of Any xs es) fs ≡ true → OfSort xs es fs
unfolding faulty plant_of
some_sort xs es [] h = absurd (false≢true h)
some_sort xs es (e ∷ fs) h = by_event (or_cases (is_fault Any (sort_of es e)) (faulty (plant_of Any xs es) fs) h) (some_sort xs es fs)
  where
    by_event : (is_fault Any (sort_of es e) ≡ true) ⊎ (faulty (plant_of Any xs es) fs ≡ true) → (faulty (plant_of Any xs es) fs ≡ true → OfSort xs es fs) → OfSort xs es (e ∷ fs)
    by_event (inl b) later =
        let some = ltb-true 0 (sort_of es e) b in
        record { sort = sort_of es e; some = omega arith; there' = sort_occurs es e (omega arith); bad = or_left _ _ (eq-eqb (sort_of es e) (sort_of es e) refl) }
    by_event (inr b) later = let k = later b in record { sort = k.sort; some = k.some; there' = k.there'; bad = or_right _ _ k.bad }

pub greatest : Greatest
unfolding ComesOutIn May plant_of
greatest xs es out n sorts late early t r bad long may =
    let k = some_sort xs es early bad in
    let p = plant_of Any xs es in
    let q = plant_of (Sort k.sort) xs es in
    let own = sorts k.sort k.some k.there' in
    let same = seen_there p q (λ e. refl) (λ a m. m) in
    own.0 late early t (run_there p q (λ e. refl) (λ a m. m) r) k.bad (omega (arith, own.1))
    (may.0, may.1, run_there p q (λ e. refl) (λ a m. m) may.2, sym (same may.0) ∙ may.3 ∙ same (late ++ early), fine_sort k.sort k.some es xs may.0 may.4)

pub only_sort : OnlySort
unfolding plant_of
only_sort k xs es some others = λ j. record { arrows = arrows_in xs; shows = λ e. get_or es (2 * e) 0; fault = λ e. same e j }
  where
    same : (e : ℕ) → is_fault (Sort k) (sort_of es e) ≡ is_fault Any (sort_of es e)
    same e = ⊎_elim (λ z. sym (counts_same k some es (sort_of es e) (inl z))) (λ n. sym (counts_same k some es (sort_of es e) (inr (others (sort_of es e) (omega arith) (sort_occurs es e (omega arith)))))) (cases_eq (sort_of es e) 0)
