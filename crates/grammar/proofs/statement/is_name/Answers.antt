use Rattle.std.proofs.Common.{rules, tests, ◌≡◌, get_or, sym, ◌∙◌}
use Rattle.std.specs.Char.{is_ascii_alphabetic}
use Rattle.std.proofs.lemmas.Bool.Decides.{not_from_Decides, Decides-eqb}
use Rattle.std.proofs.lemmas.Slice.Eq.{slice_eq-Decides}
use Rattle.std.proofs.lemmas.Iterator.Adapters.{YieldsList-from_bytes}
use Rattle.std.proofs.lemmas.Iterator.Search.{all_from_yields_List}
use Rattle.grammar.specs.Line.{name_byte}
use Rattle.grammar.proofs.Names.{name_by_bytes}
use Rattle.grammar.proofs.statement.is_name.Goals as goal

pub returns-then-is_some_and : goal.returns-then-is_some_and
returns-then-is_some_and c =
    let w = c.args.word.now in
    let letter : c.is_some_and.result ≡ is_ascii_alphabetic (get_or w 0 0) = search rules in
    all_from_yields_List name_byte _ _ _ c.all.ensures.ran (YieldsList-from_bytes w c.bytes.ensures.rest) (λ x b q k. search (rules, tests))
    ∙ name_by_bytes w c.if-word-gt32.false (sym letter ∙ c.if-is_some_and.true) (not_from_Decides _ (slice_eq-Decides Decides-eqb _ _ _ c.eq.ensures) c.if-eq.false)
