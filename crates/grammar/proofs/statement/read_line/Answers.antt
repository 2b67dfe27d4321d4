use Rattle.std.proofs.Common.{Some, None, sym, ap, ◌∙◌}
use Rattle.grammar.specs.Line.{of_text}
use Rattle.grammar.proofs.Texts.{text_ok}
use Rattle.grammar.proofs.statement.read_line.Goals as goal

pub returns-in_err-ok : goal.returns-in_err-ok
returns-in_err-ok c =
    let e = text_ok _ c.args.line.now c.from_utf8.result None (sym c.in_err-ok.was ∙ c.ok.ensures.value) c.from_utf8.ensures.cases in
    rw (c.from_residual.ensures, e)

pub returns : goal.returns
returns c =
    let h = text_ok _ c.args.line.now c.from_utf8.result (Some c.in_ok-ok.field-0) (sym c.in_ok-ok.was ∙ c.ok.ensures.value) c.from_utf8.ensures.cases in
    let e = h.0 in
    rw e (c.read_text.ensures ∙ ap of_text h.1)
