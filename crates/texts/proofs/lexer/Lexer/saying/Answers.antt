use Rattle.grammar.proofs.Tokens.{no_first}
use Rattle.texts.specs.Words.{left}
use Rattle.texts.proofs.Steps.{half_word}
use Rattle.texts.proofs.lexer.Lexer.saying.Goals as goal

pub returns-in_err-value : goal.returns-in_err-value
returns-in_err-value c =
    rw c.from_residual.ensures (no_first (left c.args.self.now) (left c.number.new.self) c.in_err-value.ensures.number)

pub returns-in_err-count : goal.returns-in_err-count
returns-in_err-count c = rw c.from_residual-in_err-count.ensures (half_word c.in_ok-value.ensures c.if-not-eat.ensures c.in_err-count.ensures)
