-- Why a step on memory and counts is refused. Assumes nothing.
use Rattle.std.specs.Prelude.{ℕ, ◌-◌, Bool, false, not, ◌&&◌, ◌||◌, List, [], ◌∷◌, ◌++◌, length, Option, ◌==◌, nat_le, nat_lt}
use Rattle.std.specs.Str.{bytes_eq}
use Rattle.terms.specs.declared.Reason.{Reason}
use Rattle.terms.specs.declared.Reason.TheVariants.{BufferTooSmall, LabelTooLong, LabelsFull, TypesFull, TooFewFreeTypes, NothingToTakeBack, NothingThere}
use Rattle.terms.specs.Refusals.{first}
use Rattle.terms.specs.Limits.{longest_label, room_for_call}
use Rattle.places.specs.declared.record.TypeRecord.{TypeRecord}
use Rattle.types.specs.Trees.{same, grown}
use Rattle.types.specs.Checks.{tests}
use Rattle.pool.specs.declared.store.Counts.{Counts}
use Rattle.pool.specs.declared.store.Memory.{Memory}
use Rattle.pool.specs.Held.{labels_of, types_of, means, rooms_of, vouches}

-- whether a thing is among others, by a test of two things
abbrev pub among : {A : Type 0} → (A → A → Bool) → A → List A → Bool
among e x [] = false
among e x (y ∷ ys) = e x y || among e x ys

-- the memory does not vouch for the counts
abbrev pub strange : Memory → Counts → Bool × Reason
strange m c = (not (vouches m c), BufferTooSmall)

-- any step: the counts are strange
abbrev pub why_strange : Memory → Counts → Option Reason
why_strange m c = first (strange m c ∷ [])

-- a label: the counts are strange, it is too long, or it is not there and no place is left
abbrev pub why_label : Memory → Counts → List ℕ → Option Reason
why_label m c bs =
    first (strange m c ∷ ((nat_lt longest_label (length bs), LabelTooLong) ∷ ((not (among bytes_eq bs (labels_of m c)) && nat_le (rooms_of m).labels c.labels, LabelsFull) ∷ [])))

-- a type: the counts are strange, its record may not stand, or it is not there and no place is left
abbrev pub why_type : Memory → Counts → TypeRecord → Option Reason
why_type m c r =
    first (strange m c ∷ (tests c.labels c.types (means m) r ++ ((not (among same (grown (means m) r) (types_of m c)) && nat_le (rooms_of m).types c.types, TypesFull) ∷ [])))

-- a row behind n of them, of which there is room for so many: the counts are strange, or no place is left
abbrev pub why_full : Memory → Counts → ℕ → ℕ → Reason → Option Reason
why_full m c room n full = first (strange m c ∷ ((nat_le room n, full) ∷ []))

-- a count taken back: the counts are strange, or it is 0
abbrev pub why_back : Memory → Counts → ℕ → Option Reason
why_back m c n = first (strange m c ∷ (((n == 0), NothingToTakeBack) ∷ []))

-- a read of the place k of n: the counts are strange, or nothing is there
abbrev pub why_read : Memory → Counts → ℕ → ℕ → Option Reason
why_read m c n k = first (strange m c ∷ ((nat_le n k, NothingThere) ∷ []))

-- what a call or a fold may take: the counts are strange, or too few places are free
abbrev pub why_no_call : Memory → Counts → Option Reason
why_no_call m c = first (strange m c ∷ ((nat_lt ((rooms_of m).types - c.types) room_for_call, TooFewFreeTypes) ∷ []))
