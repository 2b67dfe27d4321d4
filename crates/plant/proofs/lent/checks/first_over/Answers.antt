use Rattle.std.proofs.Common.{◌≡◌, ◌+◌, ◌<◌, ◌≤◌, length, get_or, sym, ◌∙◌, arith, rules}
use Rattle.plant.proofs.Limits.{over_here, over_later, over_nowhere, place_on, place_again}
use Rattle.plant.proofs.lent.checks.first_over.Goals as goal
use Rattle.plant.proofs.lent.checks.first_over.Goals.{then-place, else-place}

pub returns-then-from-limits : goal.returns-then-from-limits
returns-then-from-limits g c =
    let over : get_or c.args.limits c.loop-i.place 0 ≤ get_or c.args.numbers.now c.loop-i.i 0 = omega arith in
    sym (c.loop-i.invariant.2 ∙ over_here c.args.limits c.args.numbers.now c.loop-i.i c.loop-i.place c.loop-i.invariant.0 c.loop-i-test.true over)

pub loop-i-preserved : goal.loop-i-preserved
loop-i-preserved g c =
    let long : g.row.N ≡ length c.args.limits = search rules in
    let under : get_or c.args.numbers.now c.loop-i.i 0 < get_or c.args.limits c.loop-i.place 0 = omega arith in
    let same = c.loop-i.invariant.2 ∙ over_later c.args.limits c.args.numbers.now c.loop-i.i c.loop-i.place c.loop-i.invariant.0 c.loop-i-test.true under in
    elim c.if-place.branch [
      | then-place w ↦ simp w.place-is (place_again c.loop-i.i (length c.args.limits) c.loop-i.place c.loop-i.invariant.0 c.loop-i.invariant.1 (w.if-place.true ∙ long), omega (arith, c.requires, long), same)
      | else-place w ↦
          let place = c.loop-i.place in
          let off : place + 1 ≡ length c.args.limits → ⊥ = λ e. w.if-place.false (e ∙ sym long) in
          let on : place + 1 < length c.args.limits = omega (arith, c.loop-i.invariant.1, off) in
          simp w.place-is (place_on c.loop-i.i (length c.args.limits) place c.loop-i.invariant.0 c.loop-i.invariant.1 off, on, same)
    ]

pub returns : goal.returns
returns g c = sym (c.loop-i.invariant.2 ∙ over_nowhere c.args.limits c.args.numbers.now c.loop-i.i c.loop-i-test.false)
