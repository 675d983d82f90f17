-- When a record may stand as a type, and why not. Assumes nothing.
use Rattle.std.specs.Prelude.{ℕ, Bool, true, false, cond, not, ◌&&◌, ◌||◌, List, [], ◌∷◌, ℤ, pos, negsuc, Option, ◌==◌, nat_le, nat_lt}
use Rattle.terms.specs.declared.Reason.{Reason}
use Rattle.terms.specs.declared.Reason.TheVariants.{OutOfRange, UnknownPart, BadPart, TooDeep}
use Rattle.terms.specs.Refusals.{first}
use Rattle.terms.specs.Limits.{deepest_type, most_precision, last_timestamp_unit, last_interval_unit}
use Rattle.terms.specs.Kinds.{kinds, between, is_integer, is_list, has_child}
use Rattle.places.specs.declared.record.TypeRecord.{TypeRecord}
use Rattle.types.specs.Trees.{Ty, kind_of, wild, depth, grown, same_int, any_size, is_dictionary}

-- a unit: of a Timestamp from second to nanosecond, of an Interval one of three, of any other kind 0
abbrev pub unit_fits : ℕ → ℕ → Bool
unit_fits k u = cond (k == 16) (nat_le u last_timestamp_unit) (cond (k == 17) (nat_le u last_interval_unit) (u == 0))

-- a precision: of a decimal 1 to 38, of any other kind 0
abbrev pub precision_fits : ℕ → ℕ → Bool
precision_fits k p = cond (k == 13) (between 1 most_precision p) (p == 0)

-- a scale: of a decimal up to its precision, of any other kind 0
abbrev pub scale_fits : ℕ → ℕ → ℕ → Bool
scale_fits k p s = cond (k == 13) (nat_le s p) (s == 0)

-- 0 or more
abbrev pub not_negative : ℤ → Bool
not_negative (pos n) = true
not_negative (negsuc n) = false

-- a size: of a fixed-size list 0 or more, or any size; of any other kind 0
unfoldable pub size_fits : ℕ → ℤ → Bool
size_fits k z = cond (k == 28) (not_negative z || same_int z any_size) (same_int z (pos 0))

-- whether the label counts: that of a list's field, and the zone of a Timestamp whose flag is 1
abbrev pub uses_label : ℕ → ℕ → Bool
uses_label k f = is_list k || (k == 16 && f == 1)

-- a flag: of a list or a Timestamp 0 or 1, of any other kind 0
abbrev pub flag_fits : ℕ → ℕ → Bool
flag_fits k f = cond (is_list k || k == 16) (nat_le f 1) (f == 0)

-- the numbers of a record are in the ranges of a kind
abbrev pub ranges_fit : ℕ → TypeRecord → Bool
ranges_fit k r = (((unit_fits k r.unit && precision_fits k r.precision) && scale_fits k r.precision r.scale) && size_fits k r.size) && flag_fits k r.flag

-- what a kind does not use is 0
abbrev pub unused_zero : ℕ → TypeRecord → Bool
unused_zero k r = ((uses_label k r.flag || r.label == 0) && (has_child k || r.child == 0)) && (is_dictionary k || r.second == 0)

-- the numbers of a record fit a kind: in their ranges, and 0 where the kind does not use them
abbrev pub numbers_fit : ℕ → TypeRecord → Bool
numbers_fit k r = ranges_fit k r && unused_zero k r

-- there is such a kind, and the numbers fit it
abbrev pub in_range : TypeRecord → Bool
in_range r = nat_lt r.kind kinds && numbers_fit r.kind r

-- a label or a type in it is not among so many labels and so many types
abbrev pub unknown_part : ℕ → ℕ → TypeRecord → Bool
unknown_part labels types r =
    (uses_label r.kind r.flag && nat_le labels r.label)
    || ((has_child r.kind && nat_le types r.child) || (is_dictionary r.kind && nat_le types r.second))

-- what it is made of is a wildcard, or the key of a Dictionary is no integer
abbrev pub bad_part : (ℕ → Ty) → TypeRecord → Bool
bad_part f r = (has_child r.kind && wild (f r.child)) || (is_dictionary r.kind && not (is_integer (kind_of (f r.second))))

-- more levels than a type has
abbrev pub too_deep : (ℕ → Ty) → TypeRecord → Bool
too_deep f r = nat_lt deepest_type (depth (grown f r))

-- why a record may not stand as a type behind so many labels and types, in the order of the numbers
abbrev pub tests : ℕ → ℕ → (ℕ → Ty) → TypeRecord → List (Bool × Reason)
tests labels types f r =
    (not (in_range r), OutOfRange) ∷ ((unknown_part labels types r, UnknownPart) ∷ ((bad_part f r, BadPart) ∷ ((too_deep f r, TooDeep) ∷ [])))

-- the first of these reasons that is true
abbrev pub unfit : ℕ → ℕ → (ℕ → Ty) → TypeRecord → Option Reason
unfit labels types f r = first (tests labels types f r)

-- whether none is
abbrev pub fit : ℕ → ℕ → (ℕ → Ty) → TypeRecord → Bool
fit labels types f r = in_range r && (not (unknown_part labels types r) && (not (bad_part f r) && not (too_deep f r)))
