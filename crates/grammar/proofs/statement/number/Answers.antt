use Rattle.std.proofs.Common.{◌∙◌, arith}
use Rattle.std.proofs.lemmas.Str.Parse.{parse_plain}
use Rattle.std.proofs.lemmas.Str.Pattern.{starts_char}
use Rattle.std.proofs.lemmas.Bool.Decides.{not_from_Decides}
use Rattle.grammar.proofs.Numbers.{own, number_is, plus_none}
use Rattle.grammar.proofs.statement.number.Goals as goal

pub returns-then-starts_with : goal.returns-then-starts_with
returns-then-starts_with c =
    plus_none c.args.word.now ((starts_char 43 c.args.word.now _ c.starts_with.ensures.cases (omega arith) (omega arith)).0 c.if-starts_with.true)

pub returns : goal.returns
returns c =
    let plain = not_from_Decides _ (starts_char 43 c.args.word.now _ c.starts_with.ensures.cases (omega arith) (omega arith)) c.if-starts_with.false in
    c.ok.ensures.value ∙ number_is c.args.word.now (omega arith) c.parse.result (parse_plain own 64 c.args.word.now _ c.parse.ensures.value.0 plain)
