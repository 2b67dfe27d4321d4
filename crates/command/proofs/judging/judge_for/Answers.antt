use Rattle.std.proofs.Common.{◌∙◌, ap, map, string_bytes}
use Rattle.command.proofs.Verdicts.{judged}
use Rattle.command.proofs.judging.judge_for.Goals as goal

pub returns : goal.returns
returns c =
    let o = c.in_ok-opened.ensures in
    let s = c.sentence-sentence.ensures in
    (o.0, o.1, o.2, judged o.3 c.in_ok-judgement.ensures _ _ _ (ap (map string_bytes) s.names ∙ c.names.ensures) s.verdict s.room c.in_ok-format.ensures.ok)
