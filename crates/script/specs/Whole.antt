-- What the bytes of a whole line say. Assumes nothing.
use Rattle.std.specs.Prelude.{◌≡◌, ℕ, ◌+◌, ◌≤◌, Bool, false, cond, ◌||◌, List, [], ◌∷◌, map, length, Some, None, Ok, Err, vec_items, Option, Result, ◌==◌, ◌≢◌}
use Rattle.std.specs.List.{AllByRecursion}
use Rattle.arguments.specs.declared.written.ArgumentName.{ArgumentName}
use Rattle.script.specs.declared.fault.Fault.{Fault}
use Rattle.script.specs.declared.items.Text.{Text}
use Rattle.script.specs.declared.lines.Keyword.TheVariants as keyword
use Rattle.script.specs.declared.lines.Line.{Line}
use Rattle.script.specs.declared.lines.Line.TheVariants as line
use Rattle.script.specs.Tokens.{Tok, word, lex}
use Rattle.script.specs.Seen.{seen, Inside, Refuses}
use Rattle.script.specs.Spelling.{spelled_text, spelled_argument}
use Rattle.script.specs.Lines.{Form, blank, function, arguments, letters, spelled_named, form, Level, line_text}

-- a space or a tab
abbrev pub is_blank : ℕ → Bool
is_blank b = b == 32 || b == 9

-- the first byte that is no blank is `#`
unfoldable pub comment : List ℕ → Bool
comment [] = false
comment (b ∷ bs) = cond (is_blank b) (comment bs) (b == 35)

-- the tokens of a line, of which a comment has none
abbrev pub says : List ℕ → Option (List Tok)
says line = cond (comment line) (Some []) (lex line)

-- the tokens of what a line says, seen through the text
abbrev pub shown : List ℕ → Form → List Tok
shown text blank = []
shown text (function n ps) = word (letters keyword.Function) ∷ map (seen text) (spelled_named spelled_text n ps)
shown text (arguments n ws) = word (letters keyword.Arguments) ∷ map (seen text) (spelled_named spelled_argument n ws)

-- a name, where there is one, lies within so many bytes
abbrev pub NameInside : ℕ → Option ArgumentName → Type 0
NameInside n None = Unit {0}
NameInside n (Some m) = m.start + m.len ≤ n

-- a text lies within so many bytes
abbrev pub TextInside : ℕ → Text → Type 0
TextInside n t = Inside n t.span

-- all texts of a line lie within so many bytes
abbrev pub LineInside : ℕ → Line → Type 0
LineInside n line.Blank = Unit {0}
LineInside n (line.Function f) = TextInside n f.name × AllByRecursion (TextInside n) (vec_items f.params)
LineInside n (line.Arguments a) = TextInside n a.name × AllByRecursion (NameInside n) (vec_items a.names)

-- a line is what the bytes say
pub record Reads (bytes : List ℕ) (l : Line) : Type 0 where
  pub value : says bytes ≡ Some (shown (line_text l) (form l))
  pub len : Level l
  pub within : LineInside (length (line_text l)) l

-- the bytes say nothing that a line can say
abbrev pub Unread : List ℕ → Type 0
Unread bytes = (text : List ℕ) (f : Form) → says bytes ≢ Some (shown text f)

-- the line that the bytes say, or none
abbrev pub Answers : List ℕ → Result Line Fault → Type 0
Answers bytes (Ok l) = Reads bytes l
Answers bytes (Err e) = Refuses e (Unread bytes)
