use Rattle.std.proofs.Common.{sym, arith}
use Rattle.grammar.proofs.Forms.{number_from, three_words, header_or_none}
use Rattle.grammar.specs.declared.plan.Header.{Header}
use Rattle.texts.specs.Words.{token_of}
use Rattle.texts.proofs.form.header.Goals as goal

pub returns : goal.returns
returns c =
    let h : Header = record { cells = c.in_ok-number.field-0; workers = c.in_ok-number-2.field-0; start = c.in_ok-number-3.field-0 } in
    header_or_none token_of c.args.words.now h
    (three_words token_of c.args.words.now _ _ _ _ (omega arith) (number_from _ _ (sym c.in_ok-number.ensures)) (number_from _ _ (sym c.in_ok-number-2.ensures)) (number_from _ _ (sym c.in_ok-number-3.ensures)))
    c.header_fits.result c.header_fits.ensures c.then_some.result c.then_some.ensures
