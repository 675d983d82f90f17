-- What the tokens of the code stand for. Assumes nothing.
use Rattle.std.specs.Prelude.{◌≡◌, ℕ, ◌+◌, ◌<◌, ◌≤◌, List, [], map, length, take, drop, Some, None, Ok, Err, vec_items, Option, Result, slice_index}
use Rattle.std.specs.List.{AllByRecursion}
use Rattle.std.specs.Coded.{Unit-prop, le_prop}
use Rattle.script.specs.declared.fault.Fault.{Fault}
use Rattle.script.specs.declared.fault.Fault.TheVariants.{Memory, Stray, Escape, Large, Unfinished, Expected}
use Rattle.script.specs.declared.tokens.Span.{Span}
use Rattle.script.specs.declared.tokens.Token.{Token}
use Rattle.script.specs.declared.tokens.Token.TheVariants.{Word, Quoted, Number, Open, Close, Comma, Arrow}
use Rattle.script.specs.declared.tokens.Tokens.{Tokens}
use Rattle.script.specs.Tokens as tokens
use Rattle.script.specs.Tokens.{Tok, State, step, run, finish}

-- the bytes of a span
abbrev pub bytes : List ℕ → Span → List ℕ
bytes text s = take s.len (drop s.start text)

-- a token, seen through the text
abbrev pub seen : List ℕ → Token → Tok
seen text (Word s) = tokens.word (bytes text s)
seen text (Quoted s) = tokens.quoted (bytes text s)
seen text (Number n) = tokens.number n
seen text Open = tokens.opens
seen text Close = tokens.closes
seen text Comma = tokens.comma
seen text Arrow = tokens.arrow

-- a span lies within so many bytes
abbrev pub Inside : ℕ → Span → Type 0
Inside n s = s.start + s.len ≤ n

-- the span of a token lies within so many bytes
abbrev pub Within : ℕ → Token → Type 0
Within n (Word s) = Inside n s
Within n (Quoted s) = Inside n s
Within n (Number k) = Unit {0}
Within n Open = Unit {0}
Within n Close = Unit {0}
Within n Comma = Unit {0}
Within n Arrow = Unit {0}

-- it does so in one way at most
pub Within-prop : (n : ℕ) (t : Token) → IsProp (Within n t)
Within-prop n (Word s) = le_prop
Within-prop n (Quoted s) = le_prop
Within-prop n (Number k) = Unit-prop
Within-prop n Open = Unit-prop
Within-prop n Close = Unit-prop
Within-prop n Comma = Unit-prop
Within-prop n Arrow = Unit-prop

-- a fault says P, unless it is want of memory
abbrev pub Refuses : Fault → Type 0 → Type 0
Refuses Memory P = Unit {0}
Refuses (Stray place byte) P = P
Refuses (Escape place byte) P = P
Refuses (Large place) P = P
Refuses Unfinished P = P
Refuses (Expected what) P = P

-- a fault of the tokens says P, unless it is want of memory
abbrev pub Expects : Fault → Type 0 → Type 0
Expects Memory P = Unit {0}
Expects (Stray place byte) P = ⊥
Expects (Escape place byte) P = ⊥
Expects (Large place) P = ⊥
Expects Unfinished P = ⊥
Expects (Expected what) P = P

-- the tokens that there should be, each span within the text
pub record Listed (o : Option (List Tok)) (t : Tokens) : Type 0 where
  pub value : o ≡ Some (map (seen (vec_items t.text)) (vec_items t.tokens))
  pub within : AllByRecursion (Within (length (vec_items t.text))) (vec_items t.tokens)

-- the machine takes every byte before this place, and not the one there
abbrev pub Stuck : List ℕ → ℕ → Type 0
Stuck line q = (q < length line) × ((s : State) × (run (tokens.at [] tokens.nothing) (take q line) ≡ Some s) × (step s (slice_index line q) ≡ None))

-- a fault of the bytes of a line: the first place that the machine does not take, and the byte there
abbrev pub Faulty : List ℕ → Fault → Type 0
Faulty line Memory = Unit {0}
Faulty line (Stray q c) = Stuck line q × (c ≡ slice_index line q)
Faulty line (Escape q c) = Stuck line q × (c ≡ slice_index line q)
Faulty line (Large q) = Stuck line q
Faulty line Unfinished = (s : State) × (run (tokens.at [] tokens.nothing) line ≡ Some s) × (finish s ≡ None)
Faulty line (Expected what) = Unit {0}

-- a cut line has the tokens that it should, or there are none
abbrev pub Ends : Result Tokens Fault → Option (List Tok) → Type 0
Ends (Ok t) o = Listed o t
Ends (Err e) o = Refuses e (o ≡ None)
