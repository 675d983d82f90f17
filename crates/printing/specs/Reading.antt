-- What is printed, as the reader of a line reads it. Assumes nothing.
use Rattle.std.specs.Prelude.{◌≡◌, ℕ, cond, List, [], ◌∷◌, length, drop, Some}
use Rattle.script.specs.Tokens.{Tok, word, quoted, lex}
use Rattle.printing.specs.Printing.{is_word}

-- the token that a label is: a word where it can stand without quotes
abbrev pub label_token : List ℕ → Tok
label_token label = cond (is_word label) (word label) (quoted label)

-- a text, read as a line, is this one token
abbrev pub ReadsBack : List ℕ → Tok → Type 0
ReadsBack text t = lex text ≡ Some (t ∷ [])

-- what a text has gained reads back
abbrev pub Reads : List ℕ → List ℕ → Tok → Type 0
Reads before after t = ReadsBack (drop (length before) after) t
