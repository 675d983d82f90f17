-- What the lexer of the code stands for, and what each of its steps brings. Assumes nothing.
use Rattle.std.specs.Prelude.{◌≡◌, ℕ, List, map, drop, Some, None, Ok, Err, vec_items, Option, Result}
use Rattle.script.specs.declared.fault.Fault.{Fault}
use Rattle.script.specs.declared.fault.Fault.TheVariants.{Memory, Stray, Escape, Large, Unfinished, Expected}
use Rattle.script.specs.declared.tokens.Input.{Input}
use Rattle.script.specs.declared.tokens.Mode.{Mode}
use Rattle.script.specs.declared.tokens.Mode.TheVariants.{Between, InWord, InQuote, InEscape, InHigh, InLow, InNumber, InArrow}
use Rattle.script.specs.declared.tokens.Lexer.{Lexer}
use Rattle.script.specs.declared.tokens.Tokens.{Tokens}
use Rattle.script.specs.Tokens as tokens
use Rattle.script.specs.Tokens.{Tok, Pending, State}
use Rattle.script.specs.Seen.{seen, Listed}

-- what is begun, with its bytes
abbrev pub pending : List ℕ → Mode → Pending
pending w Between = tokens.nothing
pending w InWord = tokens.in_word w
pending w InQuote = tokens.in_quote w
pending w InEscape = tokens.in_escape w
pending w InHigh = tokens.in_high w
pending w (InLow h) = tokens.in_low w h.value
pending w (InNumber n) = tokens.in_number n
pending w InArrow = tokens.in_arrow

-- the bytes of what is begun: the last ones of the text
abbrev pub begun : Lexer → List ℕ
begun l = drop l.start (vec_items l.text)

-- the tokens of a lexer so far
abbrev pub done : Lexer → List Tok
done l = map (seen (vec_items l.text)) (vec_items l.tokens)

-- the state of a lexer
abbrev pub state : Lexer → State
state l = tokens.at (done l) (pending (begun l) l.mode)

-- a step that only want of memory stops comes to the state that it should
abbrev pub Grows : {X : Type 0} → Result X Fault → Option State → Lexer → Type 0
Grows (Ok u) o l = o ≡ Some (state l)
Grows (Err e) o l = e ≡ Memory

-- a fault about a byte at its place says P, unless it is want of memory
abbrev pub Blames : Input → Fault → Type 0 → Type 0
Blames i Memory P = Unit {0}
Blames i (Stray q c) P = (q ≡ i.place) × (c ≡ i.byte) × P
Blames i (Escape q c) P = (q ≡ i.place) × (c ≡ i.byte) × P
Blames i (Large q) P = (q ≡ i.place) × P
Blames i Unfinished P = ⊥
Blames i (Expected what) P = ⊥

-- a byte at its place brings the state that it should, or there is none
abbrev pub Steps : {X : Type 0} → Input → Result X Fault → Option State → Lexer → Type 0
Steps i (Ok u) o l = o ≡ Some (state l)
Steps i (Err e) o l = Blames i e (o ≡ None)

-- a fault at the end of a line says P, unless it is want of memory
abbrev pub Unended : Fault → Type 0 → Type 0
Unended Memory P = Unit {0}
Unended (Stray q c) P = ⊥
Unended (Escape q c) P = ⊥
Unended (Large q) P = ⊥
Unended Unfinished P = P
Unended (Expected what) P = ⊥

-- where the line ends there are the tokens that there should be, or none
abbrev pub Finishes : Result Tokens Fault → Option (List Tok) → Type 0
Finishes (Ok t) o = Listed o t
Finishes (Err e) o = Unended e (o ≡ None)
