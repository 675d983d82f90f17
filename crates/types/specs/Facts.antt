-- What is known of records that stand as types. Assumes nothing.
use Rattle.std.specs.Prelude.{◌≡◌, ℕ, ◌<◌, true, List, ◌≢◌, slice_index_or}
use Rattle.std.specs.List.{slice_get}
use Rattle.places.specs.declared.record.TypeRecord.{TypeRecord}
use Rattle.places.specs.Records.{blank}
use Rattle.types.specs.Trees.{tree}
use Rattle.types.specs.Checks.{fit}

-- each of the first n records may stand where it stands, over the records before it
abbrev pub Sound : ℕ → List TypeRecord → ℕ → Type 0
Sound labels rs n = (k : ℕ) → k < n → fit labels k (tree rs) (slice_index_or rs k blank) ≡ true

-- no two of the first n things are the same
abbrev pub Apart : {A : Type 0} → List A → ℕ → Type 0
Apart xs n = (i j : ℕ) → (i < j) × (j < n) → slice_get xs i ≢ slice_get xs j
