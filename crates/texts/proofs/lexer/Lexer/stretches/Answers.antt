use Rattle.std.proofs.Common.{vec_items, rules}
use Rattle.grammar.specs.Plans.{StretchesFit, stretch_words}
use Rattle.grammar.proofs.Forms.{stretches_small}
use Rattle.texts.proofs.Parses.{line_parsed}
use Rattle.texts.proofs.lexer.Lexer.stretches.Goals as goal

pub returns : goal.returns
returns c = λ few. line_parsed (StretchesFit c.args.workers) stretch_words vec_items (stretches_small c.args.workers few) c.in_form.ensures (λ ws o s. search rules)
