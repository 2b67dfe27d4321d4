use Rattle.std.proofs.Common.{◌++◌, map, string_bytes, codes, ap, sym, ◌∙◌}
use Rattle.command.specs.Lines.{line}
use Rattle.command.proofs.Answered.{begun, next_more, ended, words_more, words_all}
use Rattle.command.proofs.following.lines.Goals as goal
use Rattle.command.proofs.following.lines.Goals.{in-Ok+in_ok-write-in-Ok, in-Err+in_ok-write-in-Err}

pub loop-word-init : goal.loop-word-init
loop-word-init c = begun _ c.new-listener.result (map string_bytes c.args.words.now) _ c.new-listener.ensures.plant c.new-listener.ensures.right c.new-listener.ensures.first c.new-out.ensures.bytes

pub loop-word-preserved : goal.loop-word-preserved
loop-word-preserved c =
    next_more _ c.loop-word.listener c.hear.new.self (string_bytes c.word-item.result) c.as_bytes.result.now _ _ _ c.hear.result (string_bytes c.loop-word.out) (string_bytes c.match-hear.out)
    (words_more c.args.words.now c.loop-word.word-index c.word-item.result c.loop-word-test.true c.word-item.is)
    (c.as_bytes.ensures.value ∙ c.as_str.ensures.value)
    c.loop-word.invariant c.hear.ensures.plant c.hear.ensures.hears c.hear.ensures.next
    (elim c.match-hear.branch [
      | in-Ok+in_ok-write-in-Ok w ↦ ap string_bytes w.out-is ∙ w.in_ok-write-in-Ok.ensures.bytes ∙ ap (λ l. string_bytes c.loop-word.out ++ (line l ++ codes "\n")) (sym w.in-Ok.is)
      | in-Err+in_ok-write-in-Err w ↦ ap string_bytes w.out-is ∙ w.in_ok-write-in-Err.ensures.bytes ∙ ap (λ l. string_bytes c.loop-word.out ++ (line l ++ codes "\n")) (sym w.in-Err.is)
    ])

pub returns : goal.returns
returns c = ended _ c.loop-word.listener _ _ _ (words_all c.args.words.now c.loop-word.word-index c.loop-word-test.false) c.loop-word.invariant
