-- Worked lines of the definition, one to a row. Assumes nothing.
use Rattle.std.specs.Prelude.{◌≡◌, ℕ, List, [], ◌∷◌, Some, None, codes, Option}
use Rattle.script.specs.Tokens.{Tok, word, quoted, number, opens, closes, comma, arrow}
use Rattle.script.specs.Whole.{says}

-- a line, and its tokens
pub record Row : Type 0 where
  pub line : List ℕ
  pub tokens : Option (List Tok)

-- a row
abbrev pub row : List ℕ → Option (List Tok) → Row
row l ts = record { line = l; tokens = ts }

-- the worked lines: a call; a comment; an escaped byte, "\x4a"; a quote that is not closed; the largest number, and the next; a number with letters behind it
abbrev pub table : List Row
table =
    row (codes "arguments f(ack => 70, 12)") (Some (word (codes "arguments") ∷ word (codes "f") ∷ opens ∷ word (codes "ack") ∷ arrow ∷ number 70 ∷ comma ∷ number 12 ∷ closes ∷ []))
    ∷ row (codes "  # function") (Some [])
    ∷ row (34 ∷ 92 ∷ 120 ∷ 52 ∷ 97 ∷ 34 ∷ []) (Some (quoted (74 ∷ []) ∷ []))
    ∷ row (34 ∷ 92 ∷ 34 ∷ []) None
    ∷ row (codes "4294967295") (Some (number 4294967295 ∷ []))
    ∷ row (codes "4294967296") None
    ∷ row (codes "12ab") (Some (number 12 ∷ word (codes "ab") ∷ []))
    ∷ []

-- the definition gives what the row says
abbrev pub Holds : Row → Type 0
Holds r = says r.line ≡ r.tokens
