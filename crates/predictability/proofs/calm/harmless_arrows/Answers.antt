use Rattle.std.proofs.Common.{◌≡◌, ℕ, List, [], ◌∷◌, ◌++◌, ap, ◌∙◌, arith}
use Rattle.plant.specs.Model.{steps_left}
use Rattle.plant.proofs.Readings.{few_steps, steps_turn, steps_end}
use Rattle.predictability.proofs.Leaving.{leave_none, leave_in, leave_out, leave_all}
use Rattle.predictability.proofs.Sourcing.{all_given, one_more}
use Rattle.predictability.proofs.calm.harmless_arrows.Goals as goal

pub loop-step-init : goal.loop-step-init
loop-step-init c = rw c.new-arrows.ensures (leave_none c.args.plant)

pub push-requires : goal.push-requires
push-requires c =
    let at = steps_turn c.args.plant c.into_iter-step-iterator.result (ap steps_left c.into_iter-step-iterator.ensures.into_iter_gives ∙ c.steps-step-items.ensures) _ _ c.loop-step.yielded_by _ _ _ c.in-Some.is c.next.ensures.steps in
    omega (arith, at.there, few_steps c.args.plant)

pub push-requires-then-not-step : goal.push-requires-then-not-step
push-requires-then-not-step c =
    let at = steps_turn c.args.plant c.into_iter-step-iterator.result (ap steps_left c.into_iter-step-iterator.ensures.into_iter_gives ∙ c.steps-step-items.ensures) _ _ c.loop-step.yielded_by _ _ _ c.in-Some.is c.next.ensures.steps in
    omega (arith, at.there, few_steps c.args.plant)

pub push-requires-then-not-step-2 : goal.push-requires-then-not-step-2
push-requires-then-not-step-2 c =
    let at = steps_turn c.args.plant c.into_iter-step-iterator.result (ap steps_left c.into_iter-step-iterator.ensures.into_iter_gives ∙ c.steps-step-items.ensures) _ _ c.loop-step.yielded_by _ _ _ c.in-Some.is c.next.ensures.steps in
    omega (arith, at.there, few_steps c.args.plant)

pub loop-step-preserved-then-not-step : goal.loop-step-preserved-then-not-step
loop-step-preserved-then-not-step c =
    let at = steps_turn c.args.plant c.into_iter-step-iterator.result (ap steps_left c.into_iter-step-iterator.ensures.into_iter_gives ∙ c.steps-step-items.ensures) _ _ c.loop-step.yielded_by _ _ _ c.in-Some.is c.next.ensures.steps in
    let s = c.in-Some.step in
    let kept = c.loop-step.arrows.items in
    let items : c.push-then-not-step-2.new.self.items ≡ ((kept ++ (s.from ∷ [])) ++ (s.event ∷ [])) ++ (s.to ∷ []) =
    c.push-then-not-step-2.ensures.items ∙ ap (λ (l : List ℕ). l ++ (s.to ∷ [])) (c.push-then-not-step.ensures.items ∙ ap (λ (l : List ℕ). l ++ (s.event ∷ [])) c.push.ensures.items) in
    rw (items, ← one_more c.loop-step.yielded s) (leave_in c.args.plant at c.if-not-step.true c.loop-step.invariant)

pub loop-step-preserved : goal.loop-step-preserved
loop-step-preserved c =
    let at = steps_turn c.args.plant c.into_iter-step-iterator.result (ap steps_left c.into_iter-step-iterator.ensures.into_iter_gives ∙ c.steps-step-items.ensures) _ _ c.loop-step.yielded_by _ _ _ c.in-Some.is c.next.ensures.steps in
    rw (← one_more c.loop-step.yielded c.in-Some.step) (leave_out c.args.plant at c.if-not-step.false c.loop-step.invariant)

pub returns : goal.returns
returns c = leave_all c.args.plant c.loop-step.invariant (all_given c.args.plant _ (steps_end c.args.plant c.into_iter-step-iterator.result (ap steps_left c.into_iter-step-iterator.ensures.into_iter_gives ∙ c.steps-step-items.ensures) _ _ c.loop-step.yielded_by _ _ c.in-None.is c.next.ensures.steps))
