use Rattle.std.proofs.Common.{◌∙◌, sym, subst, take_at}
use Rattle.command.specs.Texts.{Holds}
use Rattle.command.proofs.Verdicts.{enough, answered, holds}
use Rattle.command.proofs.valid.Opened.judge.Goals as goal

pub unwrap-verdict-requires : goal.unwrap-verdict-requires
unwrap-verdict-requires c =
    answered _ _ _ _ (enough _ _ _ _ c.numbers.ensures.valid (c.as_mut_slice.ensures.len ∙ c.in_ok-room.ensures.len)) c.judge.result c.judge.ensures

pub returns : goal.returns
returns c =
    let h = holds _ _ _ c.judge.new.room (enough _ _ _ _ c.numbers.ensures.valid (c.as_mut_slice.ensures.len ∙ c.in_ok-room.ensures.len)) c.unwrap-verdict.result (rw c.unwrap-verdict.ensures at c.judge.ensures) in
    subst (Holds _ c.unwrap-verdict.result) (sym (take_at c.judge.new.room _ c.in_ok-room.room.len (c.judge.auto.room ∙ c.as_mut_slice.ensures.len)))
    (subst (λ p. Holds p c.unwrap-verdict.result c.judge.new.room) c.numbers.ensures.plant h)
