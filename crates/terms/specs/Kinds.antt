-- The kinds of types by their numbers, and their classes. Assumes nothing.
use Rattle.std.specs.Prelude.{◌≡◌, ℕ, ◌≤◌, Bool, cond, ◌&&◌, Result, MatchResult, nat_le}
use Rattle.terms.specs.declared.kind.Kind.{Kind}
use Rattle.terms.specs.declared.kind.UnknownKind.{UnknownKind}
use Rattle.terms.specs.declared.kind.Kind.TheVariants.{Null, Boolean, Int8, Int16, Int32, Int64, UInt8, UInt16, UInt32, UInt64, Float16, Float32, Float64, Decimal128, Date32, Date64, Timestamp, Interval, Utf8, LargeUtf8, Utf8View, Binary, LargeBinary, BinaryView, List, LargeList, ListView, LargeListView, FixedSizeList, Dictionary}

-- the number of a kind
abbrev pub kind_number : Kind → ℕ
kind_number Null = 0
kind_number Boolean = 1
kind_number Int8 = 2
kind_number Int16 = 3
kind_number Int32 = 4
kind_number Int64 = 5
kind_number UInt8 = 6
kind_number UInt16 = 7
kind_number UInt32 = 8
kind_number UInt64 = 9
kind_number Float16 = 10
kind_number Float32 = 11
kind_number Float64 = 12
kind_number Decimal128 = 13
kind_number Date32 = 14
kind_number Date64 = 15
kind_number Timestamp = 16
kind_number Interval = 17
kind_number Utf8 = 18
kind_number LargeUtf8 = 19
kind_number Utf8View = 20
kind_number Binary = 21
kind_number LargeBinary = 22
kind_number BinaryView = 23
kind_number List = 24
kind_number LargeList = 25
kind_number ListView = 26
kind_number LargeListView = 27
kind_number FixedSizeList = 28
kind_number Dictionary = 29

-- how many kinds there are: the numbers below it are kinds
abbrev pub kinds : ℕ
kinds = 30

-- the number tells the kind: no other has it
pub record Tells (k : Kind) (n : ℕ) : Type 0 where
  pub value : n ≡ kind_number k
  pub only : (j : Kind) → kind_number j ≡ n → j ≡ k

-- the kind that has the number, or the number where none has
abbrev pub Decodes : ℕ → Result Kind UnknownKind → Type 0
Decodes n r = MatchResult r (λ k. kind_number k ≡ n) (λ e. (kinds ≤ n) × (e.0 ≡ n))

-- from low to high
abbrev pub between : ℕ → ℕ → ℕ → Bool
between low high k = nat_le low k && nat_le k high

-- Int8 to UInt64
abbrev pub is_integer : ℕ → Bool
is_integer k = between 2 9 k

-- Float16 to Float64
abbrev pub is_float : ℕ → Bool
is_float k = between 10 12 k

-- an integer, a float or a decimal
abbrev pub is_numeric : ℕ → Bool
is_numeric k = between 2 13 k

-- Date32 or Date64
abbrev pub is_date : ℕ → Bool
is_date k = between 14 15 k

-- Utf8, LargeUtf8 or Utf8View
abbrev pub is_string : ℕ → Bool
is_string k = between 18 20 k

-- Binary, LargeBinary or BinaryView
abbrev pub is_binary : ℕ → Bool
is_binary k = between 21 23 k

-- a list of any of the five kinds
abbrev pub is_list : ℕ → Bool
is_list k = between 24 28 k

-- a list or a Dictionary: what is made of another type
abbrev pub has_child : ℕ → Bool
has_child k = between 24 29 k

-- the kind that stands for all of its class; a Dictionary's is its value's, which the trees say
abbrev pub native : ℕ → ℕ
native k = cond (is_date k) 14 (cond (is_string k) 18 (cond (is_binary k) 21 (cond (is_list k) 24 k)))
