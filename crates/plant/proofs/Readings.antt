-- What is read of a plant that was checked. Assumes nothing.
use Rattle.std.proofs.Common.{◌≡◌, ℕ, zero, suc, Option, Some, None, ◌+◌, ◌*◌, ◌/◌, ◌<◌, ◌≤◌, List, [], ◌∷◌, length, get_or, drop, sym, refl, ap, ◌∙◌, subst, arith}
use lib.ListN.{length-map}
use Rattle.std.specs.List.{AllByRecursion}
use Rattle.std.proofs.ByRecursion.{All-get_or}
use Rattle.std.proofs.lemmas.Iterator.{YieldsList}
use Rattle.std.proofs.lemmas.Iterator.Consumers.{YieldsList-from_first, YieldsList-turn, YieldsList-end}
use Rattle.std.specs.Iterator.{Yields, YieldsFirst}
use Rattle.std.proofs.lemmas.List.{get_or-map, get_or_default, map-id, drop_all, drop_more}
use Rattle.graph.specs.Member.{Among, here, there}
use Rattle.graph.proofs.Member.{among_map}
use Rattle.plant.specs.declared.lent.Plant.{Plant as Lent}
use Rattle.plant.specs.declared.lent.steps.Steps.{Steps}
use Rattle.plant.specs.declared.parts.Arrow.{Arrow}
use Rattle.plant.specs.declared.parts.Event.{Event}
use Rattle.plant.specs.declared.parts.Step.{Step}
use Rattle.plant.specs.Model.{model, event_count, event_of, step_of, steps, steps_left, no_arrow, no_step, ArrowAt, StepAt}
use Rattle.plant.specs.Numbers.{arrows_in, plant_in}
use Rattle.plant.specs.Twin.{Goes}
use Rattle.plant.specs.Validity.{Fits, Valid}
use Rattle.plant.proofs.Threes.{three, three_at, length_threes}
use Rattle.plant.proofs.Valid.{lent_valid}

pub among_get_or : {A : Type 0} (xs : List A) (i : ℕ) (d : A) → i < length xs → Among (get_or xs i d) xs
among_get_or [] i d h = absurd (omega arith)
among_get_or (x ∷ xs) zero d h = here xs
among_get_or (x ∷ xs) (suc i) d h = there x xs (among_get_or xs i d (omega arith))

pub all_among : {A : Type 0} (P : A → Type 0) {x : A} {xs : List A} → AllByRecursion P xs → Among x xs → P x
all_among P h (here xs) = h.0
all_among P h (there y xs m) = all_among P h.1 m

module _ (p : Lent) where
  pub valid : Valid p.states p.arrows.now p.events.now
  valid = lent_valid p.states p.arrows.now p.events.now p.valid

  pub arrow_count : length (model p).arrows ≡ length p.arrows.now / 3
  unfolding plant_in
  arrow_count = length_threes p.arrows.now

  pub arrow_fits : (i : ℕ) → i < length (model p).arrows → Fits p.states (event_count p) (get_or (model p).arrows i no_arrow)
  unfolding plant_in
  arrow_fits i h = All-get_or (Fits p.states (event_count p)) (arrows_in p.arrows.now) i no_arrow h valid.fits

  pub arrow_read : (i : ℕ) → i < length p.arrows.now / 3 → ArrowAt p i (three p.arrows.now (3 * i))
  unfolding plant_in
  arrow_read i h =
      let there : i < length (model p).arrows = omega (arith, arrow_count) in
      let is = three_at p.arrows.now i (3 * i) refl (omega arith) in
      record { there = there; is = is; fits = subst (Fits p.states (event_count p)) (sym is) (arrow_fits i there) }

  pub step_count : length (steps p) ≡ length (model p).arrows
  unfolding steps
  step_count = length-map (model p).arrows (step_of (model p))

  pub few_steps : length (steps p) ≤ 1024
  unfolding plant_in
  few_steps = omega (arith, step_count, valid.few_arrows)

  pub step_read : (i : ℕ) → i < length (model p).arrows → StepAt p i (step_of (model p) (get_or (model p).arrows i no_arrow))
  unfolding steps
  step_read i h = record {
    there = omega (arith, step_count);
    is = sym (get_or-map (step_of (model p)) (model p).arrows i no_arrow no_step h);
    from = (arrow_fits i h).from;
    to = (arrow_fits i h).to;
  }

  -- an arrow and its event, put together
  pub step_made : (i : ℕ) (a : Arrow) (v : Event) → ArrowAt p i a → v ≡ event_of (model p) a.event
      → StepAt p i (record { from = a.from; event = a.event; sign = v.sign; fault = v.fault; to = a.to })
  step_made i a v at q =
      let e = at.is in
      let same : ◌≡◌ {A = Step} (step_of (model p) (get_or (model p).arrows i no_arrow)) (record { from = a.from; event = a.event; sign = v.sign; fault = v.fault; to = a.to }) = simp (q, e) in
      subst (StepAt p i) same (step_read i at.there)

  -- a step that was read is one of the plant's
  pub step_goes : {i : ℕ} {s : Step} → StepAt p i s → Goes (model p) s.event s.from s.to × (s.sign ≡ (model p).shows s.event) × (s.fault ≡ (model p).fault s.event)
  unfolding steps
  step_goes {i} {s} at =
      let h : i < length (model p).arrows = omega (arith, step_count, at.there) in
      let a = get_or (model p).arrows i no_arrow in
      let is : s ≡ step_of (model p) a = at.is ∙ get_or-map (step_of (model p)) (model p).arrows i no_arrow no_step h in
      subst (λ (t : Step). Goes (model p) t.event t.from t.to × (t.sign ≡ (model p).shows t.event) × (t.fault ≡ (model p).fault t.event)) (sym is)
      (among_get_or (model p).arrows i no_arrow h, refl, refl)

  -- what holds of all steps holds of the plant's
  pub all_goes : (P : Step → Type 0) → AllByRecursion P (steps p) → (e s u : ℕ) → Goes (model p) e s u → P (step_of (model p) (record { from = s; event = e; to = u }))
  unfolding steps
  all_goes P all e s u g = all_among P all (among_map (step_of (model p)) g)

  pub goes_within : (e s u : ℕ) → Goes (model p) e s u → (s < p.states) × (u < p.states)
  unfolding plant_in
  goes_within e s u g = let f = all_among (Fits p.states (event_count p)) valid.fits g in (f.from, f.to)

-- what an iterator has left: nothing past the last step, and else the step that it gives next and the others
module _ (s : Steps) where
  pub steps_over : length (steps s.plant) ≤ s.next → steps_left s ≡ []
  unfolding steps_left
  steps_over h = drop_all s.next (steps s.plant) h

  pub steps_next : {x : Step} → StepAt s.plant s.next x → steps_left s ≡ x ∷ steps_left (record { plant = s.plant; next = s.next + 1 })
  unfolding steps_left
  steps_next at = drop_more (steps s.plant) s.next no_step at.there ∙ ap (λ y. y ∷ drop (s.next + 1) (steps s.plant)) (sym at.is)

-- a loop over the steps of p: what was given so far are its first steps, the next is the step behind them, and at the end all were given
module _ (p : Lent) (s : Steps) (e : steps_left s ≡ steps p) where
  road : YieldsList (YieldsFirst steps_left) (λ (x : Step). x) s (steps p)
  road = YieldsList-from_first (λ (x : Step). x) steps_left (steps p) e

  module _ (xs : List Step) (t : Steps) (y : Yields (YieldsFirst steps_left) s xs t) (r : Option Step) (u : Steps) where
    pub steps_turn : (x : Step) → r ≡ Some x → YieldsFirst steps_left t r u → StepAt p (length xs) x
    steps_turn x is next =
        let turn = YieldsList-turn road xs t y r u x is next in
        let h : length xs < length (model p).arrows = omega (arith, step_count p, turn.0) in
        let read = step_read p (length xs) h in
        let same : x ≡ get_or (steps p) (length xs) no_step = turn.1 ∙ get_or_default (steps p) (length xs) x no_step turn.0 in
        subst (StepAt p (length xs)) (read.is ∙ sym same) read

    pub steps_end : r ≡ None → YieldsFirst steps_left t r u → xs ≡ steps p
    steps_end is next = sym (map-id xs) ∙ (YieldsList-end road xs t y r u is next).0
