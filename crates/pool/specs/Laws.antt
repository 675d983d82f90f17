-- What always holds of what a memory holds. Assumes nothing.
use Rattle.std.specs.Prelude.{◌≡◌, ℕ, ◌+◌, ◌<◌, ◌≤◌, true, List, [], ◌∷◌, ◌++◌, length, take, Some}
use Rattle.std.specs.List.{slice_get}
use Rattle.terms.specs.Limits.{first_labels, longest_label, deepest_type}
use Rattle.places.specs.Finding.{Absent}
use Rattle.types.specs.Trees.{depth, Calm}
use Rattle.pool.specs.declared.store.Counts.{Counts}
use Rattle.pool.specs.declared.store.Memory.{Memory}
use Rattle.pool.specs.Facts.{initial_labels, stamp_at, back}
use Rattle.pool.specs.Held.{labels_of, types_of, functions_of, entries_of, means, seen, rooms_of, needed, vouches}

-- numbers are equal where their things are
abbrev pub ToldApart : {A : Type 0} → List A → Type 0
ToldApart xs = (i j : ℕ) → i < length xs → j < length xs → slice_get xs i ≡ slice_get xs j → i ≡ j

-- what holds of a memory and counts that it vouches for
pub record Well (m : Memory) (c : Counts) : Type 0 where
  pub vouched : vouches m c ≡ true
  -- the counts are how many there are, and there are no more than places
  pub labels_count : length (labels_of m c) ≡ c.labels
  pub types_count : length (types_of m c) ≡ c.types
  pub functions_count : length (functions_of m c) ≡ c.functions
  pub entries_count : length (entries_of m c) ≡ c.entries
  pub labels_room : c.labels ≤ (rooms_of m).labels
  pub types_room : c.types ≤ (rooms_of m).types
  pub functions_room : c.functions ≤ (rooms_of m).functions
  pub entries_room : c.entries ≤ (rooms_of m).entries
  -- a label's number tells its bytes, of which there are 64 at most; `item`, `+TZ` and `+00` come first
  pub labels_apart : ToldApart (labels_of m c)
  pub labels_short : (k : ℕ) (bs : List ℕ) → slice_get (labels_of m c) k ≡ Some bs → length bs ≤ longest_label
  pub labels_first : take first_labels (labels_of m c) ≡ initial_labels
  -- a type's number tells its tree, which has 8 levels at most and no wildcard within
  pub types_apart : ToldApart (types_of m c)
  pub types_mean : (n : ℕ) → n < c.types → slice_get (types_of m c) n ≡ Some (means m n)
  pub types_flat : (n : ℕ) → n < c.types → depth (means m n) ≤ deepest_type
  pub types_calm : (n : ℕ) → n < c.types → Calm (means m n)
  -- functions and entries were written when no more types were live than now
  pub functions_over : (i : ℕ) → i < c.functions → stamp_at m.functions.places.now i ≤ c.types
  pub entries_over : (i : ℕ) → i < c.entries → stamp_at m.entries.places.now i ≤ c.types

-- k is the number of x in `after`, which is `before`, or `before` with x at its end where it was not there
pub record Interned {A : Type 0} (before : List A) (x : A) (k : ℕ) (after : List A) : Type 0 where
  pub there : slice_get after k ≡ Some x
  pub old : k < length before → after ≡ before
  pub new : length before ≤ k → (k ≡ length before) × Absent before x × (after ≡ before ++ x ∷ [])

-- at most k types were added, and nothing else: what was there before is as it was, and memory vouched for it and still does
pub record Grows (k : ℕ) (m : Memory) (c : Counts) (m' : Memory) (c' : Counts) : Type 0 where
  pub from : vouches m c ≡ true
  pub to : vouches m' c' ≡ true
  pub up : c.types ≤ c'.types
  pub most : c'.types ≤ c.types + k
  pub counts : c' ≡ back c c'.types
  pub rooms : rooms_of m' ≡ rooms_of m
  pub needs : needed m' c ≡ needed m c
  pub before : seen m' c ≡ seen m c
  pub keeps : (n : ℕ) → n < c.types → means m' n ≡ means m n
