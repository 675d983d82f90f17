-- Types as trees, and the trees that the records of a list stand for. Assumes nothing.
use Rattle.std.specs.Prelude.{◌≡◌, ℕ, suc, max, Bool, true, false, cond, ◌&&◌, ◌||◌, List, [], ◌∷◌, ◌++◌, get_or, ℤ, pos, negsuc, ◌==◌, slice_index_or}
use Rattle.terms.specs.Kinds.{native, is_list, has_child}
use Rattle.places.specs.declared.record.TypeRecord.{TypeRecord}

-- what a type says besides the types that it is made of
pub record Head : Type 0 where
  pub kind : ℕ
  pub unit : ℕ
  pub precision : ℕ
  pub scale : ℕ
  pub size : ℤ
  pub label : ℕ
  pub flag : ℕ

-- a type with its child and its second child; `none` where there is none, and for a number that names nothing
pub data Ty : Type 0 where
  none : Ty
  node : Head → Ty → Ty → Ty

-- its kind; 255 is no kind
abbrev pub kind_of : Ty → ℕ
kind_of none = 255
kind_of (node h c d) = h.kind

-- the element of a list, the value of a Dictionary
abbrev pub child_of : Ty → Ty
child_of none = none
child_of (node h c d) = c

-- the key of a Dictionary
abbrev pub second_of : Ty → Ty
second_of none = none
second_of (node h c d) = d

-- whether two whole numbers are the same
abbrev pub same_int : ℤ → ℤ → Bool
same_int (pos m) (pos n) = m == n
same_int (pos m) (negsuc n) = false
same_int (negsuc m) (pos n) = false
same_int (negsuc m) (negsuc n) = m == n

-- whether two heads are the same, number by number
abbrev pub same_head : Head → Head → Bool
same_head g h =
    (g.kind == h.kind) && (g.unit == h.unit && (g.precision == h.precision && (g.scale == h.scale && (same_int g.size h.size && (g.label == h.label && g.flag == h.flag)))))

-- whether two types are the same, through and through
unfoldable pub same : Ty → Ty → Bool
same none none = true
same none (node h c d) = false
same (node g a b) none = false
same (node g a b) (node h c d) = same_head g h && (same a c && same b d)

-- whether a number is that of a Dictionary, the only kind with a second child
abbrev pub is_dictionary : ℕ → Bool
is_dictionary k = k == 29

-- where it ends to go from a type to its child, through kinds to go through
unfoldable pub within : (ℕ → Bool) → Ty → Ty
within through none = none
within through (node h c d) = cond (through h.kind) (within through c) (node h c d)

-- the value of a Dictionary, and of a Dictionary within it, to the innermost; any other type itself
abbrev pub innermost : Ty → Ty
innermost t = within is_dictionary t

-- the native kind: that of the innermost value
abbrev pub native_of : Ty → ℕ
native_of t = native (kind_of (innermost t))

-- the size that stands for any size, -2^31
abbrev pub any_size : ℤ
any_size = negsuc 2147483647

-- the number of the label `+TZ`, the zone that stands for any zone
abbrev pub any_zone : ℕ
any_zone = 1

-- a fixed-size list of any size, or a Timestamp of any zone
abbrev pub wild_head : Head → Bool
wild_head h = (h.kind == 28 && same_int h.size any_size) || (h.kind == 16 && (h.flag == 1 && h.label == any_zone))

-- whether a type is a wildcard itself
abbrev pub wild : Ty → Bool
wild none = false
wild (node h c d) = wild_head h

-- one more than the depth of the deepest type that it is made of
unfoldable pub depth : Ty → ℕ
depth none = 0
depth (node h c d) = suc (max (depth c) (depth d))

-- the first type within that is no list
abbrev pub base_type : Ty → Ty
base_type t = within is_list t

-- how many lists there are from the outside
unfoldable pub dimensions : Ty → ℕ
dimensions none = 0
dimensions (node h c d) = cond (is_list h.kind) (suc (dimensions c)) 0

-- no type that it is made of is a wildcard, at any depth
unfoldable pub Calm : Ty → Type 0
Calm none = Unit {0}
Calm (node h c d) = (wild c ≡ false) × (wild d ≡ false) × (Calm c × Calm d)

-- what a record says besides the types that it is made of
abbrev pub head_of : TypeRecord → Head
head_of r = record { kind = r.kind; unit = r.unit; precision = r.precision; scale = r.scale; size = r.size; label = r.label; flag = r.flag }

-- the tree of a record, over what the numbers in it stand for
abbrev pub grown : (ℕ → Ty) → TypeRecord → Ty
grown f r = node (head_of r) (cond (has_child r.kind) (f r.child) none) (cond (is_dictionary r.kind) (f r.second) none)

-- the trees of records behind those of the records before
unfoldable pub grow : List Ty → List TypeRecord → List Ty
grow ts [] = ts
grow ts (r ∷ rs) = grow (ts ++ (grown (λ n. get_or ts n none) r ∷ [])) rs

-- the trees of a list of records, each over those before it
unfoldable pub meanings : List TypeRecord → List Ty
meanings rs = grow [] rs

-- the tree that a number stands for
unfoldable pub tree : List TypeRecord → ℕ → Ty
tree rs n = slice_index_or (meanings rs) n none
