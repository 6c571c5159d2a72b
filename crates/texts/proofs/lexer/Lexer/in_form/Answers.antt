use Rattle.std.specs.Fn.{FnOnceReturnsAt}
use Rattle.std.proofs.Common.{Err, vec_items, ap, ◌∙◌, subst}
use Rattle.std.proofs.lemmas.Result.{err_from_is_err_and}
use Rattle.texts.specs.Parsing.FormRead.{no_memory}
use Rattle.texts.specs.Words.{LineRead}
use Rattle.texts.proofs.Parses.{form_gave}
use Rattle.texts.proofs.lexer.Lexer.in_form.Goals as goal

pub returns-in_err-words : goal.returns-in_err-words
returns-in_err-words g c = let p = err_from_is_err_and c.from_residual.result c.from_residual.ensures.1 in no_memory (p.1 ∙ ap Err p.2)

pub returns-in_err-form : goal.returns-in_err-form
returns-in_err-form g c =
    let p = err_from_is_err_and c.from_residual-in_err-form.result c.from_residual-in_err-form.ensures.1 in no_memory (p.1 ∙ ap Err p.2)

pub returns : goal.returns
returns g c =
    let old = c.args.self.now in
    let new = c.line.new.self in
    form_gave (λ ws r. FnOnceReturnsAt g.F.FnOnce c.args.form ws r) old new c.bad_line-bad.result c.bad_line-bad.ensures
    (vec_items c.in-Some.words) c.in_ok-form.field-0 c.ok_or.result (subst (λ o. LineRead old o new) c.in-Some.is c.in_ok-words.ensures)
    (c.as_slice.result, c.in_ok-form.ensures, c.as_slice.ensures.value) c.ok_or.ensures.value
