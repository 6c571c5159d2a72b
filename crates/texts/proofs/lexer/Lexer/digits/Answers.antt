use Rattle.std.proofs.Common.{sym, ◌∙◌, refl, arith}
use Rattle.grammar.proofs.Places.{digits_next}
use Rattle.texts.proofs.lexer.Lexer.digits.Goals as goal

pub invariant_of-self : goal.invariant_of-self
invariant_of-self c =
    let l = c.args.self.now in
    let d = digits_next l.text.now l.at c.digit_count-count.result l.within c.digit_count-count.ensures.count in
    record { within = d.within; placed = l.placed ∙ sym d.line }

pub returns : goal.returns
returns c =
    let l = c.args.self.now in
    let d = digits_next l.text.now l.at c.digit_count-count.result l.within c.digit_count-count.ensures.count in
    record { moved = record { text = refl; forward = omega arith }; same_line = refl; digits = d.digits; cut = d.cut; ended = d.ended }
