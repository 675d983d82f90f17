-- Labels and arguments as they are printed. Assumes nothing.
use Rattle.std.specs.Prelude.{ℕ, ◌+◌, ◌-◌, ◌/◌, ◌%◌, Bool, true, false, cond, not, ◌&&◌, ◌||◌, List, [], ◌∷◌, ◌++◌, Some, None, codes, decimal, Option, ◌==◌, nat_lt}
use Rattle.std.specs.Char.{is_ascii_alphanumeric, is_ascii_digit}
use Rattle.std.specs.Int.{is_in_range}
use Rattle.std.specs.List.{flat_map, slice_get}
use Rattle.arguments.specs.declared.written.Argument.{Argument}

-- a letter, a digit or `_`
abbrev pub word_byte : ℕ → Bool
word_byte b = is_ascii_alphanumeric b || b == 95

-- every byte is one of a word
unfoldable pub word_bytes : List ℕ → Bool
word_bytes [] = true
word_bytes (b ∷ bs) = word_byte b && word_bytes bs

-- it begins with something, and with no digit
abbrev pub begun : List ℕ → Bool
begun [] = false
begun (b ∷ bs) = not (is_ascii_digit b)

-- a label that can stand without quotes
abbrev pub is_word : List ℕ → Bool
is_word label = begun label && word_bytes label

-- a hexadecimal digit, in capitals
abbrev pub hex_digit : ℕ → ℕ
hex_digit v = cond (nat_lt v 10) (48 + v) (cond (nat_lt v 16) (65 + (v - 10)) 63)

-- a byte by its number, behind a `\x`
abbrev pub hexed : ℕ → List ℕ
hexed b = 92 ∷ 120 ∷ hex_digit (b / 16) ∷ hex_digit (b % 16) ∷ []

-- a byte in quotes: `"` and `\` behind a `\`, a byte outside 20 to 7E by its two hexadecimal digits
abbrev pub escaped : ℕ → List ℕ
escaped b =
    cond (b == 34) (92 ∷ 34 ∷ [])
    (cond (b == 92) (92 ∷ 92 ∷ [])
    (cond (is_in_range 32 126 b) (b ∷ [])
    (hexed b)))

-- a label in quotes
abbrev pub quoted_text : List ℕ → List ℕ
quoted_text label = 34 ∷ (flat_map escaped label ++ 34 ∷ [])

-- a label as a script writes it
abbrev pub label_text : List ℕ → List ℕ
label_text label = cond (is_word label) label (quoted_text label)

-- what stands before an argument: its parameter, where there is one
abbrev pub under : Option (List ℕ) → List ℕ
under None = []
under (Some p) = label_text p ++ codes ": "

-- the argument at place k, behind a comma if it is not the first
abbrev pub piece : List (List ℕ) → ℕ → Argument → List ℕ
piece params k a = cond (nat_lt 0 k) (codes ", ") [] ++ (under (slice_get params k) ++ decimal a.id)

-- the arguments from place k on
unfoldable pub pieces : List (List ℕ) → ℕ → List Argument → List ℕ
pieces params k [] = []
pieces params k (a ∷ more) = piece params k a ++ pieces params (k + 1) more

-- a function's name and the arguments by place
abbrev pub placed_text : List ℕ → List (List ℕ) → List Argument → List ℕ
placed_text name params args = label_text name ++ 40 ∷ (pieces params 0 args ++ 41 ∷ [])
