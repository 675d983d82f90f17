-- What the bytes of a line say, as tokens: a machine that takes byte after byte. Assumes nothing.
use Rattle.std.specs.Prelude.{ℕ, ◌+◌, ◌-◌, ◌*◌, ◌^◌, Bool, true, false, cond, ◌||◌, List, [], ◌∷◌, ◌++◌, Some, None, Option, ◌==◌, nat_lt}
use Rattle.std.specs.Option.{option_map}
use Rattle.std.specs.Char.{is_ascii_alphabetic, is_ascii_digit}
use Rattle.std.specs.Int.{is_in_range}
use Rattle.script.specs.declared.tokens.Class.{Class}
use Rattle.script.specs.declared.tokens.Class.TheVariants.{Blank, Letter, Digit, Quote, Opens, Closes, Separates, Equals, Other}

-- what a line is cut into
pub data Tok : Type 0 where
  word : List ℕ → Tok
  quoted : List ℕ → Tok
  number : ℕ → Tok
  opens : Tok
  closes : Tok
  comma : Tok
  arrow : Tok

-- what is begun and not yet a token
pub data Pending : Type 0 where
  nothing : Pending
  in_word : List ℕ → Pending
  in_quote : List ℕ → Pending
  in_escape : List ℕ → Pending
  in_high : List ℕ → Pending
  in_low : List ℕ → ℕ → Pending
  in_number : ℕ → Pending
  in_arrow : Pending

-- the tokens so far, and what is begun
pub record State : Type 0 where
  pub done : List Tok
  pub pending : Pending

-- what a byte outside quotes is
abbrev pub class : ℕ → Class
class b =
    cond (is_ascii_alphabetic b) Letter
    (cond (is_ascii_digit b) Digit
    (cond (b == 95) Letter
    (cond (b == 32) Blank
    (cond (b == 9) Blank
    (cond (b == 34) Quote
    (cond (b == 40) Opens
    (cond (b == 41) Closes
    (cond (b == 44) Separates
    (cond (b == 61) Equals Other)))))))))

-- whether a byte goes on with a word
abbrev pub goes_on : Class → Bool
goes_on Blank = false
goes_on Letter = true
goes_on Digit = true
goes_on Quote = false
goes_on Opens = false
goes_on Closes = false
goes_on Separates = false
goes_on Equals = false
goes_on Other = false

-- the value of a hexadecimal digit, in either case
abbrev pub hex_value : ℕ → Option ℕ
hex_value b =
    cond (is_in_range 48 57 b) (Some (b - 48))
    (cond (is_in_range 97 102 b) (Some (b - 87))
    (cond (is_in_range 65 70 b) (Some (b - 55)) None))

-- the state of these tokens, with this begun
abbrev pub at : List Tok → Pending → State
at ts p = record { done = ts; pending = p }

-- a byte where nothing is begun
abbrev pub begins : List Tok → ℕ → Class → Option State
begins ts b Blank = Some (at ts nothing)
begins ts b Letter = Some (at ts (in_word (b ∷ [])))
begins ts b Digit = Some (at ts (in_number (b - 48)))
begins ts b Quote = Some (at ts (in_quote []))
begins ts b Opens = Some (at (ts ++ opens ∷ []) nothing)
begins ts b Closes = Some (at (ts ++ closes ∷ []) nothing)
begins ts b Separates = Some (at (ts ++ comma ∷ []) nothing)
begins ts b Equals = Some (at ts in_arrow)
begins ts b Other = None

-- a number of at most 32 bits
abbrev pub counted : List Tok → ℕ → Option State
counted ts n = cond (nat_lt n (2 ^ 32)) (Some (at ts (in_number n))) None

-- a byte where something is begun
abbrev pub goes : List Tok → Pending → ℕ → Option State
goes ts nothing b = begins ts b (class b)
goes ts (in_word w) b = cond (goes_on (class b)) (Some (at ts (in_word (w ++ b ∷ [])))) (begins (ts ++ word w ∷ []) b (class b))
goes ts (in_number n) b = cond (is_ascii_digit b) (counted ts (n * 10 + (b - 48))) (begins (ts ++ number n ∷ []) b (class b))
goes ts (in_quote w) b = cond (b == 34) (Some (at (ts ++ quoted w ∷ []) nothing)) (cond (b == 92) (Some (at ts (in_escape w))) (Some (at ts (in_quote (w ++ b ∷ [])))))
goes ts (in_escape w) b = cond (b == 120) (Some (at ts (in_high w))) (cond (b == 34 || b == 92) (Some (at ts (in_quote (w ++ b ∷ [])))) None)
goes ts (in_high w) b = option_map (λ h. at ts (in_low w h)) (hex_value b)
goes ts (in_low w h) b = option_map (λ l. at ts (in_quote (w ++ (h * 16 + l) ∷ []))) (hex_value b)
goes ts in_arrow b = cond (b == 62) (Some (at (ts ++ arrow ∷ []) nothing)) None

-- the state after one byte more
abbrev pub step : State → ℕ → Option State
step s b = goes s.done s.pending b

-- what follows where there is a value
abbrev pub and_then : {A B : Type 0} → Option A → (A → Option B) → Option B
and_then None f = None
and_then (Some a) f = f a

-- the state after some bytes more
unfoldable pub run : State → List ℕ → Option State
run s [] = Some s
run s (b ∷ bs) = and_then (step s b) (λ t. run t bs)

-- the tokens where the line ends
abbrev pub ended : List Tok → Pending → Option (List Tok)
ended ts nothing = Some ts
ended ts (in_word w) = Some (ts ++ word w ∷ [])
ended ts (in_number n) = Some (ts ++ number n ∷ [])
ended ts (in_quote w) = None
ended ts (in_escape w) = None
ended ts (in_high w) = None
ended ts (in_low w h) = None
ended ts in_arrow = None

-- the tokens of a state where the line ends
abbrev pub finish : State → Option (List Tok)
finish s = ended s.done s.pending

-- the tokens of a line, where it has any reading
abbrev pub lex : List ℕ → Option (List Tok)
lex line = and_then (run (at [] nothing) line) finish
