-- What a line says, and how that is spelled. Assumes nothing.
use Rattle.std.specs.Prelude.{◌≡◌, ℕ, List, [], ◌∷◌, length, Ok, Err, vec_items, codes, Option, Result, Vec, ◌≢◌}
use Rattle.std.specs.declared.alloc.Global.{Global}
use Rattle.std.specs.List.{AllByRecursion}
use Rattle.arguments.specs.declared.written.Argument.{Argument}
use Rattle.arguments.specs.declared.written.ArgumentName.{ArgumentName}
use Rattle.script.specs.declared.fault.Fault.{Fault}
use Rattle.script.specs.declared.tokens.Span.{Span}
use Rattle.script.specs.declared.tokens.Token.{Token}
use Rattle.script.specs.declared.tokens.Token.TheVariants.{Word}
use Rattle.script.specs.declared.items.Text.{Text}
use Rattle.script.specs.declared.items.Written.{Written}
use Rattle.script.specs.declared.lines.Keyword.{Keyword}
use Rattle.script.specs.declared.lines.Keyword.TheVariants as keyword
use Rattle.script.specs.declared.lines.Line.{Line}
use Rattle.script.specs.declared.lines.Line.TheVariants as line
use Rattle.script.specs.Seen.{bytes, Expects}
use Rattle.script.specs.Spelling.{text_token, spelled_text, spelled_argument, spelled_list}

-- what a line says
pub data Form : Type 0 where
  blank : Form
  function : Text → List Text → Form
  arguments : Text → List Written → Form

-- the bytes of a keyword
abbrev pub letters : Keyword → List ℕ
letters keyword.Function = codes "function"
letters keyword.Arguments = codes "arguments"

-- a token is the word that a keyword is
abbrev pub Says : List ℕ → Token → Keyword → Type 0
Says text t k = (s : Span) × (t ≡ Word s) × (bytes text s ≡ letters k)

-- a name and a list
abbrev pub spelled_named : {X : Type 0} → (X → List Token) → Text → List X → List Token
spelled_named spelled n xs = text_token n ∷ spelled_list spelled xs

-- a keyword and what it heads
abbrev pub Headed : List ℕ → Keyword → List Token → List Token → Type 0
Headed text k rest ts = (t : Token) × Says text t k × (ts ≡ t ∷ rest)

-- the tokens spell what a line says
abbrev pub Spelled : List ℕ → Form → List Token → Type 0
Spelled text blank ts = ts ≡ []
Spelled text (function n ps) ts = Headed text keyword.Function (spelled_named spelled_text n ps) ts
Spelled text (arguments n ws) ts = Headed text keyword.Arguments (spelled_named spelled_argument n ws) ts

-- the tokens are this name and the list of these items; or they are no name and list
abbrev pub Named : {X : Type 0} → (X → List Token) → List Token → Result (Text × Vec X Global) Fault → Type 0
Named spelled ts (Ok p) = ts ≡ spelled_named spelled p.0 (vec_items p.1)
Named {X} spelled ts (Err e) = Expects e ((n : Text) (xs : List X) → ts ≢ spelled_named spelled n xs)

-- the argument that is written, of the type number 0
abbrev pub argument : Written → Argument
argument w = record { id = w.id; type_number = 0 }

-- the name that it is written with
abbrev pub name_in : Written → Option ArgumentName
name_in w = w.name

-- each argument with the name at its place
abbrev pub paired : List Argument → List (Option ArgumentName) → List Written
paired [] ns = []
paired (a ∷ more) [] = []
paired (a ∷ more) (n ∷ ns) = record { id = a.id; name = n } ∷ paired more ns

-- what a line of the code says
abbrev pub form : Line → Form
form line.Blank = blank
form (line.Function f) = function f.name (vec_items f.params)
form (line.Arguments a) = arguments a.name (paired (vec_items a.args) (vec_items a.names))

-- as many names as arguments, and each argument of the type number 0
abbrev pub Level : Line → Type 0
Level line.Blank = Unit {0}
Level (line.Function f) = Unit {0}
Level (line.Arguments a) = (length (vec_items a.names) ≡ length (vec_items a.args)) × AllByRecursion (λ x. x.type_number ≡ 0) (vec_items a.args)

-- the text of a line, of which a blank one has none
abbrev pub line_text : Line → List ℕ
line_text line.Blank = []
line_text (line.Function f) = vec_items f.text
line_text (line.Arguments a) = vec_items a.text

-- a line has this text, where it has one
abbrev pub Has : List ℕ → Line → Type 0
Has text line.Blank = Unit {0}
Has text (line.Function f) = vec_items f.text ≡ text
Has text (line.Arguments a) = vec_items a.text ≡ text

-- a line that the tokens spell
pub record Found (text : List ℕ) (ts : List Token) (l : Line) : Type 0 where
  pub value : Spelled text (form l) ts
  pub len : Level l
  pub own : Has text l

-- no line is spelled by the tokens
abbrev pub Unspelled : List ℕ → List Token → Type 0
Unspelled text ts = (f : Form) → Spelled text f ts → ⊥

-- the line that the tokens spell, or none
abbrev pub Lined : List ℕ → List Token → Result Line Fault → Type 0
Lined text ts (Ok l) = Found text ts l
Lined text ts (Err e) = Expects e (Unspelled text ts)
