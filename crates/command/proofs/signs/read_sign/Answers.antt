use Rattle.std.proofs.Common.{◌≡◌, ℕ, ◌+◌, ◌-◌, ◌*◌, ◌<◌, min, length, get_or, sym, ap, ◌∙◌, arith}
use Rattle.std.proofs.lemmas.Bool.{eqb-false}
use Rattle.command.proofs.Digits.{digits_on, digits_off, value_on, no_sign, says_large, says_sign}
use Rattle.command.proofs.signs.read_sign.Goals as goal

pub returns-then-not-is_ascii_digit : goal.returns-then-not-is_ascii_digit
returns-then-not-is_ascii_digit c =
    let w = c.args.word.now in
    let i = c.loop-b.b-index in
    sym (no_sign c.args.place w (c.loop-b.invariant.1 ∙ digits_off w i c.loop-b-test.true (sym c.is_ascii_digit.ensures.value ∙ c.if-not-is_ascii_digit.true)))

pub loop-b-preserved : goal.loop-b-preserved
loop-b-preserved c =
    let w = c.args.word.now in
    let i = c.loop-b.b-index in
    let value : c.min-value.result ≡ min (10 * c.loop-b.value + (get_or w i 0 - 48)) 256 = c.min-value.ensures ∙ ap (λ (d : ℕ). min (10 * c.loop-b.value + d) 256) c.from.ensures in
    (omega arith, c.loop-b.invariant.1 ∙ digits_on w i c.loop-b-test.true (sym c.is_ascii_digit.ensures.value ∙ c.if-not-is_ascii_digit.false), c.loop-b.invariant.2 ∙ value_on w i c.loop-b-test.true c.loop-b.value c.min-value.result value)

pub returns-then-value-gt255 : goal.returns-then-value-gt255
returns-then-value-gt255 c =
    let some : 0 < length c.args.word.now = let n = eqb-false (length c.args.word.now) 0 (sym c.if-is_empty.ensures) in omega arith in
    sym (says_large c.args.place c.args.word.now c.loop-b.b-index c.loop-b.value some c.loop-b-test.false c.loop-b.invariant.1 c.loop-b.invariant.2 c.if-value-gt255.true)

pub returns : goal.returns
returns c =
    let some : 0 < length c.args.word.now = let n = eqb-false (length c.args.word.now) 0 (sym c.if-is_empty.ensures) in omega arith in
    sym (says_sign c.args.place c.args.word.now c.loop-b.b-index c.loop-b.value some c.loop-b-test.false c.loop-b.invariant.1 c.loop-b.invariant.2 c.if-value-gt255.false)
