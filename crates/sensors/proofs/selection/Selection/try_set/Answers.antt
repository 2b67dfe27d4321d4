use Rattle.std.proofs.Common.{◌≡◌, ◌≢◌, bit_and, subst, sym, arith, rules, tests}
use Rattle.std.proofs.lemmas.Bool.Decides.{when_true}
use Rattle.std.proofs.lemmas.Iterator.{cases_from_any, YieldsList-from_slice}
use Rattle.std.proofs.lemmas.List.Elements.{All-push}
use Rattle.sensors.specs.Sets.{Failing, Never, chosen_by, plant_of}
use Rattle.sensors.proofs.Choosing.{hopeless}
use Rattle.sensors.proofs.selection.Selection.try_set.Goals as goal
use Rattle.sensors.proofs.selection.Selection.try_set.Goals.{then-sum-known-via-then-sum-known, then-sum-known-via-else-sum-known+then-any}

pub returns-then-sum-known : goal.returns-then-sum-known
returns-then-sum-known c =
    elim c.then-sum-known.branch [
      | then-sum-known-via-then-sum-known w ↦ record { sound = c.requires.sound; below = omega arith; here = λ q shown out. omega (arith, w.if-sum-known.true, c.price-sum.ensures); failing = c.requires.failing }
      | then-sum-known-via-else-sum-known+then-any w ↦
          let within = when_true _ _ w.if-any.true
          (cases_from_any _ _ w.any.result (λ x. bit_and c.args.set x ≡ c.args.set) (λ x. bit_and c.args.set x ≢ c.args.set) w.any.ensures.ran (YieldsList-from_slice c.args.known.now.failed.items (cc)) (λ x q k. search (rules, tests)) (λ x q k. search (rules, tests))) in
          record { sound = c.requires.sound; below = omega arith; here = λ q shown out. absurd (hopeless c.args.self c.args.known.now.failed.items c.requires.failing c.args.set within q shown out); failing = c.requires.failing }
    ]

pub returns-then-not-is_full : goal.returns-then-not-is_full
returns-then-not-is_full c =
    record {
      sound = c.requires.sound;
      below = omega arith;
      here = λ q shown out. absurd (c.if-does.ensures q shown out);
      failing = subst (Failing (plant_of c.args.self) c.args.self.candidates.now) (sym c.push.ensures.items) (All-push (λ a. Never (plant_of c.args.self) (chosen_by c.args.self.candidates.now a)) c.args.known.now.failed.items c.grow.result c.requires.failing c.grow.ensures);
    }
