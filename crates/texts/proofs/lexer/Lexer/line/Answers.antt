use Rattle.std.proofs.Common.{is_ok, vec_items, sym, ap, subst}
use Rattle.std.proofs.ResultArms.{chosen}
use Rattle.grammar.specs.Scans.{NoLine}
use Rattle.texts.specs.declared.lexer.Lexer.{Lexer}
use Rattle.texts.specs.Words.{left, LinePassed}
use Rattle.texts.proofs.Steps.{Reading, empty_line, no_word, line_done, line_more, line_broken}
use Rattle.texts.proofs.lexer.Lexer.line.Goals as goal

pub returns-then-eat : goal.returns-then-eat
returns-then-eat c =
    subst (λ l. LinePassed c.args.self.now l c.eat.new.self) (sym c.new-words.ensures.items) (empty_line c.if-eat.ensures)

pub returns-in_default : goal.returns-in_default
returns-in_default c = subst (λ (l : Lexer). NoLine (left l)) c.if-eat.ensures.same (no_word c.loop-word.invariant c.in_default.ensures)

pub returns-then-eat-2 : goal.returns-then-eat-2
returns-then-eat-2 c =
    let new = c.eat-in-loop-word.new.self in
    let pushed = chosen _ _ _ _ c.push.ensures.items (ap is_ok c.in_ok-push.was) in
    let done = line_done c.loop-word.invariant c.in-Some.ensures c.if-eat-2.ensures in
    subst (λ (l : Lexer). LinePassed l (vec_items c.push.new.self) new) c.if-eat.ensures.same
    (subst (λ l. LinePassed c.eat.new.self l new) (sym pushed) done)

pub returns-then-not-space : goal.returns-then-not-space
returns-then-not-space c =
    subst (λ (l : Lexer). NoLine (left l)) c.if-eat.ensures.same
    (line_broken c.loop-word.invariant c.in-Some.ensures c.if-eat-2.ensures c.if-not-space.ensures)

pub loop-word-preserved : goal.loop-word-preserved
loop-word-preserved c =
    let pushed = chosen _ _ _ _ c.push.ensures.items (ap is_ok c.in_ok-push.was) in
    subst (Reading c.eat.new.self c.space.new.self) (sym pushed)
    (line_more c.loop-word.invariant c.in-Some.ensures c.if-eat-2.ensures c.if-not-space.ensures)
