-- What the lexer finds: each word is a part of the text, with its line.
use Rattle.std.specs.Prelude.{◌≡◌, ℕ, ◌+◌, ◌-◌, ◌≤◌, Bool, true, false, List, ◌++◌, map, take, drop, Some, None, vec_items, Option, Vec}
use Rattle.std.specs.List.{AllByRecursion}
use Rattle.grammar.specs.Lines.{Token, number, turns, token_text, line_text}
use Rattle.grammar.specs.Scans.{line_at, AllDigits, NoDigitNext, NextIs, Small, NumberNext, Ended, NoWord, NoLine}
use Rattle.texts.specs.declared.lexer.Lexer.{Lexer}
use Rattle.texts.specs.declared.word.Saying.{Saying}
use Rattle.texts.specs.declared.word.Saying.TheVariants.{Number, Turns}
use Rattle.texts.specs.declared.word.Word.{Word}

-- what a word says, its bytes, and its line
abbrev pub said : Saying → Token
said (Number value) = number value
said (Turns s) = turns s.party s.count

abbrev pub token_of : Word → Token
token_of w = said w.says

abbrev pub bytes_of : Word → List ℕ
bytes_of w = w.text.now

abbrev pub line_of : Word → ℕ
line_of w = w.line

-- the text that a lexer reads, and what is left of it
abbrev pub whole : Lexer → List ℕ
whole l = l.text.now

abbrev pub left : Lexer → List ℕ
left l = drop l.at l.text.now

-- a lexer that is to read this text
pub record Start (bytes : List ℕ) (l : Lexer) : Type 0 where
  pub text : whole l ≡ bytes
  pub place : l.at ≡ 0
  pub line : l.line ≡ 1

-- the lexer is further on in the same text
pub record Moved (old new : Lexer) : Type 0 where
  pub text : new.text ≡ old.text
  pub forward : old.at ≤ new.at

-- the byte b was next, and the lexer is past it
pub record BytePassed (b : ℕ) (old new : Lexer) : Type 0 where
  pub text : new.text ≡ old.text
  pub next : NextIs b (left old)
  pub place : new.at ≡ old.at + 1

-- the byte b was not next
pub record NoByte (b : ℕ) (old new : Lexer) : Type 0 where
  pub same : new ≡ old
  pub other : NextIs b (left old) → ⊥

-- whether the byte b was next
abbrev pub Eaten : ℕ → Lexer → Bool → Lexer → Type 0
Eaten b old true new = BytePassed b old new
Eaten b old false new = NoByte b old new

-- the lexer is past the digits that were next
pub record DigitsEaten (old : Lexer) (bytes : List ℕ) (new : Lexer) : Type 0 where
  pub moved : Moved old new
  pub same_line : new.line ≡ old.line
  pub digits : AllDigits bytes
  pub cut : left old ≡ bytes ++ left new
  pub ended : NoDigitNext (left new)

-- the lexer is past the digits that were next, and this is their number
pub record NumberRead (old : Lexer) (r : Option ℕ) (new : Lexer) : Type 0 where
  pub moved : Moved old new
  pub same_line : new.line ≡ old.line
  pub number : NumberNext (left old) r (left new)

-- what was next says: a number that no colon follows, or two numbers with a colon between them
abbrev pub SayingRead : Lexer → Option Saying → Lexer → Type 0
SayingRead old (Some (Number value)) new = (mid : Lexer) × NumberRead old (Some value) mid × NoByte 58 mid new
SayingRead old (Some (Turns s)) new =
    (mid : Lexer) × (after : Lexer) × NumberRead old (Some s.party) mid × BytePassed 58 mid after × NumberRead after (Some s.count) new
SayingRead old None new = NoWord (left old)

-- w is the part of the text from one place to another, with the line of its first byte
pub record PartOf (text : List ℕ) (from to : ℕ) (w : Word) : Type 0 where
  pub part : bytes_of w ≡ take (to - from) (drop from text)
  pub line : line_of w ≡ line_at text from
  pub spelled : bytes_of w ≡ token_text (token_of w)
  pub small : Small (token_of w)

-- w was next, and the lexer is past it
pub record WordPassed (old : Lexer) (w : Word) (new : Lexer) : Type 0 where
  pub moved : Moved old new
  pub same_line : new.line ≡ old.line
  pub word : PartOf (whole old) old.at new.at w
  pub ended : Ended (token_of w) (left new)

-- the word that was next, if there was one
abbrev pub WordRead : Lexer → Option Word → Lexer → Type 0
WordRead old (Some w) new = WordPassed old w new
WordRead old None new = NoWord (left old)

-- w is a part of the text, in this line
pub record InLine (text : List ℕ) (k : ℕ) (w : Word) : Type 0 where
  pub from : ℕ
  pub to : ℕ
  pub part : PartOf text from to w
  pub line : line_of w ≡ k

-- these were the words of the line that was next, and the lexer is past it
pub record LinePassed (old : Lexer) (ws : List Word) (new : Lexer) : Type 0 where
  pub moved : Moved old new
  pub line : new.line ≡ old.line + 1
  pub words : AllByRecursion (InLine (whole old) old.line) ws
  pub cut : left old ≡ line_text (map token_of ws) ++ left new

-- the words of the line that was next, if it was a line of words
abbrev pub LineRead : {H : Type 0} → Lexer → Option (Vec Word H) → Lexer → Type 0
LineRead old (Some ws) new = LinePassed old (vec_items ws) new
LineRead old None new = NoLine (left old)
