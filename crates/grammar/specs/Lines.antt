-- How a line of the text is written.
use Rattle.std.specs.Prelude.{ℕ, List, [], ◌∷◌, ◌++◌, codes, decimal}

-- what a word says: a number, or so many turns of a party
pub data Token : Type 0 where
  number : ℕ → Token
  turns : ℕ → ℕ → Token

-- the bytes of a word; decimals have no leading zeros
abbrev pub token_text : Token → List ℕ
token_text (number value) = decimal value
token_text (turns party count) = decimal party ++ (codes ":" ++ decimal count)

-- the rest of a line: its further words, each after one space, and a line feed
abbrev pub rest_text : List Token → List ℕ
rest_text [] = codes "\n"
rest_text (t ∷ ts) = codes " " ++ (token_text t ++ rest_text ts)

-- a line: its words, parted by one space, and a line feed
abbrev pub line_text : List Token → List ℕ
line_text [] = codes "\n"
line_text (t ∷ ts) = token_text t ++ rest_text ts
