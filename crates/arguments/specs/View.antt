-- What the code's slices and names stand for. Assumes nothing.
use Rattle.std.specs.Prelude.{ℕ, List, map, take, drop, Option}
use Rattle.std.specs.Borrow.{Bor}
use Rattle.std.specs.Option.{option_map}
use Rattle.arguments.specs.declared.written.ArgumentName.{ArgumentName}
use Rattle.arguments.specs.Names.{Name}

-- the bytes behind some slices
abbrev pub bytes_of : List (Bor (List ℕ)) → List (List ℕ)
bytes_of ps = map (λ p. p.now) ps

-- the name that stands in a text
abbrev pub spelled : List ℕ → ArgumentName → Name
spelled text n = record { bytes = take n.len (drop n.start text); quoted = n.is_quoted }

-- the names of a call's arguments
abbrev pub spell : List ℕ → List (Option ArgumentName) → List (Option Name)
spell text names = map (option_map (spelled text)) names
