use Rattle.grammar.proofs.Digits.{run_number}
use Rattle.texts.specs.Words.{left}
use Rattle.texts.proofs.lexer.Lexer.number.Goals as goal

pub returns : goal.returns
returns c =
    let e = c.digits.ensures in
    record {
      moved = e.moved;
      same_line = e.same_line;
      number = run_number (left c.args.self.now) c.digits.result.now (left c.digits.new.self) c.numeral.result e.digits e.ended e.cut c.numeral.ensures;
    }
