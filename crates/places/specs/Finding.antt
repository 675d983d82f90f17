-- Where a thing is among others. Assumes nothing.
use Rattle.std.specs.Prelude.{◌≡◌, ℕ, List, Some, Option, MatchOption, ◌≢◌}
use Rattle.std.specs.List.{slice_get}

-- the thing is at no place
abbrev pub Absent : {A : Type 0} → List A → A → Type 0
Absent xs x = (k : ℕ) → slice_get xs k ≢ Some x

-- a place of the thing, or none where it is at no place
abbrev pub Finds : {A : Type 0} → List A → A → Option ℕ → Type 0
Finds xs x r = MatchOption r (Absent xs x) (λ k. slice_get xs k ≡ Some x)
