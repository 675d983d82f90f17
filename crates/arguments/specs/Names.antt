-- Which parameter a name is for. Assumes nothing.
use Rattle.std.specs.Prelude.{ℕ, Bool, cond, List, [], map, length, Option, slice_index_or}
use Rattle.std.specs.Char.{to_ascii_lowercase}
use Rattle.std.specs.Str.{bytes_eq}
use Rattle.arguments.specs.First.{first_below}

-- a name as it is written, and whether in quotes
pub record Name : Type 0 where
  pub bytes : List ℕ
  pub quoted : Bool

-- a quoted name matches exactly, any other ignoring ASCII case
abbrev pub matches : Name → List ℕ → Bool
matches n p = cond n.quoted (bytes_eq n.bytes p) (bytes_eq (map to_ascii_lowercase n.bytes) (map to_ascii_lowercase p))

-- the first parameter that a name matches
abbrev pub first_match : Name → List (List ℕ) → Option ℕ
first_match n params = first_below (λ k. matches n (slice_index_or params k [])) (length params)
