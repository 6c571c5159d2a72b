use Rattle.std.proofs.Common.{vec_items, rules}
use Rattle.grammar.specs.Plans.{ProbesFit, probe_words}
use Rattle.grammar.proofs.Forms.{probes_small}
use Rattle.texts.proofs.Parses.{line_parsed}
use Rattle.texts.proofs.lexer.Lexer.probes.Goals as goal

pub returns : goal.returns
returns c = line_parsed ProbesFit probe_words vec_items probes_small c.in_form.ensures (λ ws o s. search rules)
