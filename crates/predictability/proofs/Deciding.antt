-- What the entry's parts say, put together. Assumes nothing.
use Rattle.std.proofs.Common.{◌≡◌, ℕ, min, List, None, ◌∙◌, subst}
use Rattle.plant.specs.declared.lent.Numbers.{Numbers}
use Rattle.plant.specs.Checked.{behaviour, refusal_in}
use Rattle.plant.specs.Model.{model}
use Rattle.plant.specs.Numbers.{plant_in}
use Rattle.plant.specs.Plant.{Plant}
use Rattle.plant.specs.Refusals.{refusal}
use Rattle.plant.proofs.Valid.{refused_or_valid}
use Rattle.foretelling.specs.Calm.{harmless, numbers}
use Rattle.foretelling.specs.Foretelling.{Foretells}
use Rattle.foretelling.specs.Theorems.{AtLast}
use Rattle.foretelling.proofs.Alarms.{last_moment, least_alarm}
use Rattle.foretelling.proofs.Calm.{arrows_numbers, calm_valid}
use Rattle.predictability.specs.declared.calm.Calmed.{Calmed}
use Rattle.predictability.specs.Calmed.{Calms}

-- an alarm at each last moment for as many events as n or as there are states
pub told : (p : Plant) (n states k : ℕ) → k ≡ min n states → AtLast p k → Foretells p n
told p n states k e at = (last_moment p n).1 (least_alarm p states n (subst (AtLast p) e at))

-- the numbers without the faults are turned away by no rule
pub accepted : (n : Numbers) (xs : List ℕ) → refusal_in n ≡ None → xs ≡ numbers (harmless (behaviour n) (behaviour n).arrows) → refusal n.states xs n.events.now ≡ None
unfolding plant_in
accepted n xs ok are = rw are ((refused_or_valid n.states _ n.events.now).1 (calm_valid (behaviour n) n.states n.arrows.now n.events.now ((refused_or_valid n.states n.arrows.now n.events.now).0 ok)))

-- the one plant is the other without its faults
pub calms : (c : Calmed) → Calms c.calm c.plant
unfolding plant_in
calms c =
    let p = model c.plant in
    let back = arrows_numbers (harmless p p.arrows) in
    record {
      model = (λ i. plant_in (c.arrows i) (c.events i)) ∙ (λ i. record { arrows = back i; shows = p.shows; fault = p.fault });
      states = c.states;
    }
