-- What a reader finds at the front of a text.
use Rattle.std.specs.Prelude.{◌≡◌, ℕ, ◌+◌, ◌^◌, ◌<◌, ◌≤◌, List, [], ◌∷◌, ◌++◌, take, Some, None, decimal, count_by, Option, ◌≢◌, nat_eq}
use Rattle.std.specs.List.{AllByRecursion}
use Rattle.grammar.specs.declared.plan.Stretch.{Stretch}
use Rattle.grammar.specs.Lines.{Token, number, turns, token_text, line_text}

-- the line of a place in a text, from 1: one more than the line feeds before it
abbrev pub line_at : List ℕ → ℕ → ℕ
line_at text place = count_by (λ b. nat_eq b 10) (take place text) + 1

-- each byte is a digit
abbrev pub AllDigits : List ℕ → Type 0
AllDigits [] = Unit {0}
AllDigits (b ∷ bs) = (48 ≤ b) × (b ≤ 57) × AllDigits bs

-- no digit is next
abbrev pub NoDigitNext : List ℕ → Type 0
NoDigitNext [] = Unit {0}
NoDigitNext (b ∷ bs) = 48 ≤ b → b ≤ 57 → ⊥

-- this byte is next
abbrev pub NextIs : ℕ → List ℕ → Type 0
NextIs b [] = ⊥
NextIs b (x ∷ xs) = x ≡ b

-- no number of a text in form is as large
abbrev pub limit : ℕ
limit = 2 ^ 40

abbrev pub Small : Token → Type 0
Small (number value) = value < limit
Small (turns party count) = (party < limit) × (count < limit)

-- the number that digits write without leading zeros, if it is below the limit
abbrev pub Numeral : List ℕ → Option ℕ → Type 0
Numeral digits (Some v) = (v < limit) × (digits ≡ decimal v)
Numeral digits None = (v : ℕ) → v < limit → digits ≢ decimal v

-- the number at the front of a text, as far as its digits go, and the rest
abbrev pub NumberNext : List ℕ → Option ℕ → List ℕ → Type 0
NumberNext text (Some v) rest = (v < limit) × (text ≡ decimal v ++ rest) × NoDigitNext rest
NumberNext text None rest = (v : ℕ) (after : List ℕ) → v < limit → NoDigitNext after → text ≢ decimal v ++ after

-- a word does not go on in the rest
abbrev pub Ended : Token → List ℕ → Type 0
Ended (number value) rest = NoDigitNext rest × (NextIs 58 rest → ⊥)
Ended (turns party count) rest = NoDigitNext rest

-- no word stands at the front of the text
abbrev pub NoWord : List ℕ → Type 0
NoWord text = (t : Token) (rest : List ℕ) → Small t → Ended t rest → text ≢ token_text t ++ rest

-- no line of words stands at the front of the text
abbrev pub NoLine : List ℕ → Type 0
NoLine text = (ts : List Token) (rest : List ℕ) → AllByRecursion Small ts → text ≢ line_text ts ++ rest

-- no line at the front of the text has this form and is within its limits
abbrev pub NoLineOf : {A : Type 0} → (A → Type 0) → (A → List Token) → List ℕ → Type 0
NoLineOf {A} Fits words text = (a : A) (rest : List ℕ) → Fits a → text ≢ line_text (words a) ++ rest

-- the value that the words of a line say in this form, if it is within its limits
abbrev pub Says : {A B : Type 0} → (A → Type 0) → (A → List Token) → (B → A) → List Token → Option B → Type 0
Says Fits words value ts (Some b) = Fits (value b) × (ts ≡ words (value b))
Says {A} Fits words value ts None = (a : A) → Fits a → ts ≢ words a

-- the number that a word says
abbrev pub number_of : Token → Option ℕ
number_of (number value) = Some value
number_of (turns party count) = None

-- the stretch that a word says
abbrev pub stretch_of : Token → Option Stretch
stretch_of (number value) = None
stretch_of (turns party count) = Some (record { party = party; count = count })
