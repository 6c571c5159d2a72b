use Rattle.std.proofs.Common.{refl}
use Rattle.texts.proofs.Steps.{word_passed}
use Rattle.texts.proofs.lexer.Lexer.word.Goals as goal

pub returns : goal.returns
returns c = word_passed _ c.in_ok-says.ensures refl refl
