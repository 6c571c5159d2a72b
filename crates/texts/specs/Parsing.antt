-- What is read of a text, and of a line of it.
use Rattle.std.specs.Prelude.{◌≡◌, ℕ, ◌+◌, ◌<◌, List, ◌++◌, length, Some, None, Ok, Err, vec_items, Option, Result}
use Rattle.grammar.specs.Lines.{Token, line_text}
use Rattle.grammar.specs.Plans.{PlanModel, InForm, FirstBad}
use Rattle.grammar.specs.Scans.{NoLine, NoLineOf}
use Rattle.texts.specs.declared.fault.ParseFault.{ParseFault}
use Rattle.texts.specs.declared.fault.ParseFault.TheVariants.{Text, NoMemory}
use Rattle.texts.specs.declared.fault.TextFault.TheVariants.{BadLine}
use Rattle.texts.specs.declared.lexer.Lexer.{Lexer}
use Rattle.texts.specs.declared.plan.Plan.{Plan}
use Rattle.texts.specs.declared.word.Word.{Word}
use Rattle.texts.specs.Words.{left, Moved, LinePassed}

-- a plan in lists
abbrev pub plan_model : Plan → PlanModel
plan_model p = record { header = p.header; probes = vec_items p.probes; stretches = vec_items p.stretches }

-- the plan of the text, or its first bad line; want of memory says nothing of the text
abbrev pub Parsed : List ℕ → Result Plan ParseFault → Type 0
Parsed text (Ok p) = InForm text (plan_model p)
Parsed text (Err (Text (BadLine line))) = FirstBad text line
Parsed text (Err NoMemory) = Unit {0}

-- the fault of a bad line
abbrev pub bad_line : ℕ → ParseFault
bad_line line = Text (BadLine line)

-- a line of this form was next, and the lexer is past it
pub record FormPassed {A : Type 0} (Fits : A → Type 0) (words : A → List Token) (old : Lexer) (a : A) (new : Lexer) : Type 0 where
  pub moved : Moved old new
  pub line : new.line ≡ old.line + 1
  pub fits : Fits a
  pub cut : left old ≡ line_text (words a) ++ left new

-- what a form gave of the words of the line that was next, or that the line is bad
pub data FormRead {B E : Type 0} (gives : List Word → Result (Option B) E → Type 0) (old : Lexer) (r : Result B ParseFault) (new : Lexer) : Type 0 where
  said : (ws : List Word) (b : B) → LinePassed old ws new → gives ws (Ok (Some b)) → r ≡ Ok b → FormRead gives old r new
  unsaid : (ws : List Word) → LinePassed old ws new → gives ws (Ok None) → r ≡ Err (bad_line old.line) → FormRead gives old r new
  broken : NoLine (left old) → r ≡ Err (bad_line old.line) → FormRead gives old r new
  no_memory : r ≡ Err NoMemory → FormRead gives old r new

-- what the line that was next says in this form, or that it is bad
abbrev pub LineParsed : {A B : Type 0} → (A → Type 0) → (A → List Token) → (B → A) → Lexer → Result B ParseFault → Lexer → Type 0
LineParsed Fits words value old (Ok b) new = FormPassed Fits words old (value b) new
LineParsed Fits words value old (Err (Text (BadLine line))) new = (line ≡ old.line) × NoLineOf Fits words (left old)
LineParsed Fits words value old (Err NoMemory) new = Unit {0}

-- whether nothing is left
abbrev pub EndParsed : Lexer → Result (Unit {0}) ParseFault → Type 0
EndParsed l (Ok u) = length (left l) ≡ 0
EndParsed l (Err (Text (BadLine line))) = (line ≡ l.line) × (0 < length (left l))
EndParsed l (Err NoMemory) = Unit {0}
