-- What the numbers of a view stand for. Assumes nothing.
use Rattle.std.specs.Prelude.{◌≡◌, ℕ, ◌<◌, Bool, true, List, length, Some, None, Option}
use Rattle.terms.specs.declared.kind.Kind.{Kind}
use Rattle.terms.specs.Kinds.{kind_number, kinds, has_child}
use Rattle.places.specs.declared.record.TypeRecord.{TypeRecord}
use Rattle.types.specs.declared.view.View.{View}
use Rattle.types.specs.Trees.{Ty, none, tree, grown, is_dictionary}

-- the records that it shows
abbrev pub records : View → List TypeRecord
records v = v.records.now

-- how many types it shows
abbrev pub size : View → ℕ
size v = length v.records.now

-- the tree that a number stands for
abbrev pub meant : View → ℕ → Ty
meant v n = tree v.records.now n

-- the tree of a number, where there is one
abbrev pub told : View → Option ℕ → Ty
told v None = none
told v (Some n) = meant v n

-- the number of a kind; 255 where there is none
abbrev pub kind_code : Option Kind → ℕ
kind_code None = 255
kind_code (Some k) = kind_number k

-- the record of the type n: the tree that it makes, over types before it
pub record Stands (v : View) (n : ℕ) (r : TypeRecord) : Type 0 where
  pub within : n < size v
  pub value : meant v n ≡ grown (meant v) r
  pub kind : r.kind < kinds
  pub child : has_child r.kind ≡ true → r.child < n
  pub second : is_dictionary r.kind ≡ true → r.second < n

-- answers about kinds are those of a test, which only kinds that are made of another type pass
pub record Passes (answers : Kind → Bool → Type 0) (p : ℕ → Bool) : Type 0 where
  pub told : (k : Kind) (b : Bool) → answers k b → b ≡ p (kind_number k)
  pub made : (k : ℕ) → p k ≡ true → has_child k ≡ true
