use Rattle.std.proofs.Common.{rules}
use Rattle.grammar.specs.Plans.{HeaderFits, header_words}
use Rattle.grammar.proofs.Forms.{header_small}
use Rattle.texts.proofs.Parses.{line_parsed}
use Rattle.texts.proofs.lexer.Lexer.header.Goals as goal

pub returns : goal.returns
returns c = line_parsed HeaderFits header_words (λ h. h) header_small c.in_form.ensures (λ ws o s. search rules)
