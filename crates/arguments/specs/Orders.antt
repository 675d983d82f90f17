-- A call with its named arguments in another order among themselves. Assumes nothing.
use Rattle.std.specs.Prelude.{◌≡◌, ℕ, ◌<◌, List, length, None, Ok, Err, Option, slice_index_or}
use Rattle.arguments.specs.declared.written.Argument.{Argument}
use Rattle.arguments.specs.declared.written.ArgumentName.{ArgumentName}
use Rattle.arguments.specs.Places.{Outcome, blank, resolves}

-- each argument moves with its name, one without a name not at all, and nothing is lost or added
pub record Reordered (args : List Argument) (names : List (Option ArgumentName)) (args' : List Argument) (names' : List (Option ArgumentName)) : Type 0 where
  pub as_many : length args' ≡ length args
  pub as_many_names : length names' ≡ length names
  pub to : ℕ → ℕ
  pub from : ℕ → ℕ
  pub to_within : (i : ℕ) → i < length names → to i < length names
  pub from_within : (i : ℕ) → i < length names → from i < length names
  pub back : (i : ℕ) → i < length names → from (to i) ≡ i
  pub forth : (i : ℕ) → i < length names → to (from i) ≡ i
  pub still : (i : ℕ) → i < length names → slice_index_or names i None ≡ None → to i ≡ i
  pub name : (i : ℕ) → i < length names → slice_index_or names' (to i) None ≡ slice_index_or names i None
  pub argument : (i : ℕ) → i < length names → slice_index_or args' (to i) blank ≡ slice_index_or args i blank

-- both accepted with the same answer, or both refused, by whatever number
abbrev pub Alike : Outcome → Outcome → Type 0
Alike (Ok xs) (Ok ys) = xs ≡ ys
Alike (Ok xs) (Err e) = ⊥
Alike (Err e) (Ok ys) = ⊥
Alike (Err e) (Err f) = Unit {0}

-- the order of the named arguments among themselves makes no difference to the outcome
abbrev pub Orderless : List (List ℕ) → List ℕ → List Argument → List (Option ArgumentName) → Outcome → Type 0
Orderless params text args names o =
    (args' : List Argument) (names' : List (Option ArgumentName)) → Reordered args names args' names' → Alike o (resolves params text args' names')
