-- What a memory holds up to the counts. Assumes nothing.
use Rattle.std.specs.Prelude.{ℕ, max, Bool, ◌&&◌, List, map, take, ◌==◌, nat_le}
use Rattle.terms.specs.Limits.{first_labels}
use Rattle.places.specs.declared.record.TypeRecord.{TypeRecord}
use Rattle.places.specs.declared.function.Function.{Function}
use Rattle.places.specs.declared.entry.Entry.{Entry}
use Rattle.places.specs.Labels.{spelled}
use Rattle.types.specs.Trees.{Ty, tree, meanings}
use Rattle.pool.specs.declared.store.Counts.{Counts}
use Rattle.pool.specs.declared.store.Memory.{Memory}
use Rattle.pool.specs.Slots.{room, live, newest, holds, contents}

-- the bytes of each live label
abbrev pub labels_of : Memory → Counts → List (List ℕ)
labels_of m c = map spelled (live m.labels c.labels)

-- the records of the live types
abbrev pub records_of : Memory → Counts → List TypeRecord
records_of m c = live m.types c.types

-- the tree that the number of a type stands for
abbrev pub means : Memory → ℕ → Ty
means m n = tree m.types.places.now n

-- the trees of the live types
abbrev pub types_of : Memory → Counts → List Ty
types_of m c = take c.types (meanings m.types.places.now)

-- the live functions
abbrev pub functions_of : Memory → Counts → List Function
functions_of m c = contents m.functions c.functions

-- the live plan entries
abbrev pub entries_of : Memory → Counts → List Entry
entries_of m c = contents m.entries c.entries

-- all that is live
pub record State : Type 0 where
  pub labels : List (List ℕ)
  pub types : List Ty
  pub functions : List Function
  pub entries : List Entry

abbrev pub seen : Memory → Counts → State
seen m c = record { labels = labels_of m c; types = types_of m c; functions = functions_of m c; entries = entries_of m c }

-- how many places there are of each: as many as were lent, up to the most
pub record Rooms : Type 0 where
  pub labels : ℕ
  pub types : ℕ
  pub functions : ℕ
  pub entries : ℕ

abbrev pub rooms_of : Memory → Rooms
rooms_of m = record { labels = room m.labels; types = room m.types; functions = room m.functions; entries = room m.entries }

-- how many types the live functions and entries were written over
abbrev pub needed : Memory → Counts → ℕ
needed m c = max (newest m.functions.places.now c.functions) (newest m.entries.places.now c.entries)

-- whether a memory vouches for counts: it holds that much, and the functions and entries among it are over types among it
abbrev pub vouches : Memory → Counts → Bool
vouches m c =
    (((nat_le first_labels c.labels && c.labels == m.labels.high) && nat_le c.types m.types.high)
    && holds m.functions c.functions c.types)
    && holds m.entries c.entries c.types
