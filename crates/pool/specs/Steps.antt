-- What each step on memory and counts comes to. Assumes nothing.
use Rattle.std.specs.Prelude.{◌≡◌, ℕ, ◌<◌, List, Some, Option, Result, MatchResult}
use Rattle.std.specs.List.{slice_get}
use Rattle.terms.specs.declared.Reason.{Reason}
use Rattle.terms.specs.declared.Refusal.{Refusal}
use Rattle.terms.specs.Refusals.{refusal_of, plainly}
use Rattle.places.specs.declared.record.TypeRecord.{TypeRecord}
use Rattle.types.specs.Trees.{grown}
use Rattle.types.specs.declared.view.View.{View}
use Rattle.types.specs.Views.{size, meant}
use Rattle.pool.specs.declared.store.Counts.{Counts}
use Rattle.pool.specs.declared.store.Memory.{Memory}
use Rattle.pool.specs.declared.store.Trial.{Trial}
use Rattle.pool.specs.Held.{labels_of, records_of, types_of, means, seen, rooms_of}
use Rattle.pool.specs.Reasons.{why_label, why_type}
use Rattle.pool.specs.Laws.{Well, Interned, Grows}

-- a step is refused exactly where a reason is true, by the first that is, and then nothing changes
pub record Step (why : Option Reason) (m : Memory) (c : Counts) (a : Result ℕ Refusal) (m' : Memory) (c' : Counts) (Done : ℕ → Type 0) : Type 0 where
  pub refused : refusal_of a ≡ plainly why
  pub done : MatchResult a Done (λ _. (c' ≡ c) × (m' ≡ m))

-- the label of those bytes has the number k
pub record LabelAdded (m : Memory) (c : Counts) (bs : List ℕ) (k : ℕ) (m' : Memory) (c' : Counts) : Type 0 where
  pub number : Interned (labels_of m c) bs k (labels_of m' c')
  pub frame : seen m' c' ≡ record (seen m c) { labels = labels_of m' c' }
  pub rooms : rooms_of m' ≡ rooms_of m
  pub well : Well m' c'

abbrev pub LabelAdd : Memory → Counts → List ℕ → Result ℕ Refusal → Memory → Counts → Type 0
LabelAdd m c bs a m' c' = Step (why_label m c bs) m c a m' c' (λ k. LabelAdded m c bs k m' c')

-- the type of that record has the number k
pub record TypeAdded (m : Memory) (c : Counts) (r : TypeRecord) (k : ℕ) (m' : Memory) (c' : Counts) : Type 0 where
  pub number : Interned (types_of m c) (grown (means m) r) k (types_of m' c')
  pub value : means m' k ≡ grown (means m) r
  pub grows : Grows 1 m c m' c'
  pub well : Well m' c'

abbrev pub TypeAdd : Memory → Counts → TypeRecord → Result ℕ Refusal → Memory → Counts → Type 0
TypeAdd m c r a m' c' = Step (why_type m c r) m c a m' c' (λ k. TypeAdded m c r k m' c')

-- a view of the live types
pub record Shows (m : Memory) (c : Counts) (v : View) : Type 0 where
  pub labels : v.labels ≡ c.labels
  pub types : size v ≡ c.types
  pub value : (n : ℕ) → n < c.types → meant v n ≡ means m n

-- the record that stands at the place n of the live types, and the tree that it makes
pub record TypeRead (m : Memory) (c : Counts) (n : ℕ) (r : TypeRecord) : Type 0 where
  pub place : slice_get (records_of m c) n ≡ Some r
  pub value : means m n ≡ grown (means m) r

-- the counts that a trial has
abbrev pub held : Trial → Counts
held t = t.counts.now
