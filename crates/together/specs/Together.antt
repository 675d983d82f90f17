-- What adding types together or not at all comes to. Assumes nothing.
use Rattle.std.specs.Prelude.{◌≡◌, ℕ, ◌+◌, ◌<◌, true, false, List, length, Some}
use Rattle.std.specs.List.{slice_get}
use Rattle.terms.specs.declared.Refusal.{Refusal}
use Rattle.terms.specs.declared.Reason.TheVariants.{BufferTooSmall, TypesFull}
use Rattle.terms.specs.Refusals.{refusal, plainly}
use Rattle.terms.specs.Kinds.{has_child}
use Rattle.places.specs.declared.record.TypeRecord.{TypeRecord}
use Rattle.types.specs.Trees.{grown, is_dictionary}
use Rattle.pool.specs.declared.store.Counts.{Counts}
use Rattle.pool.specs.declared.store.Memory.{Memory}
use Rattle.pool.specs.Held.{means, rooms_of, vouches}
use Rattle.pool.specs.Laws.{Grows}
use Rattle.pool.specs.Reasons.{why_type}

-- the type of a record has a number, and what it is made of is live
pub record There (m : Memory) (c : Counts) (r : TypeRecord) : Type 0 where
  pub number : ℕ
  pub live : number < c.types
  pub value : means m number ≡ grown (means m) r
  pub child : has_child r.kind ≡ true → r.child < c.types
  pub second : is_dictionary r.kind ≡ true → r.second < c.types

-- each of the first n records has its type
abbrev pub AllThere : Memory → Counts → List TypeRecord → ℕ → Type 0
AllThere m c rs n = (i : ℕ) (r : TypeRecord) → i < n → slice_get rs i ≡ Some r → There m c r

-- kept: all are there, at most as many types were added as there are records, and all else is as it was
pub record Kept (m : Memory) (c : Counts) (rs : List TypeRecord) (m' : Memory) (c' : Counts) : Type 0 where
  pub there : AllThere m' c' rs (length rs)
  pub grows : Grows (length rs) m c m' c'

-- dropped at the record i, when those before it had been added: the counts and all that was there before are as they
-- were, and the refusal is that of its add
pub record Dropped (m : Memory) (c : Counts) (rs : List TypeRecord) (e : Refusal) (m' : Memory) (c' : Counts) : Type 0 where
  pub counts : c' ≡ c
  pub back : Grows 0 m c m' c
  pub i : ℕ
  pub r : TypeRecord
  pub at : slice_get rs i ≡ Some r
  pub mid : Memory
  pub between : Counts
  pub added : Grows i m c mid between
  pub before : AllThere mid between rs i
  pub why : Some e ≡ plainly (why_type mid between r)

-- with strange counts nothing was tried
pub record Untried (m : Memory) (c : Counts) (e : Refusal) (m' : Memory) (c' : Counts) : Type 0 where
  pub strange : vouches m c ≡ false
  pub why : e ≡ refusal BufferTooSmall 0
  pub same : (c' ≡ c) × (m' ≡ m)

-- want of room is the reason only where fewer places were free than there are records
abbrev pub Room : Memory → Counts → List TypeRecord → Refusal → Type 0
Room m c rs e = e.reason ≡ TypesFull → (rooms_of m).types < c.types + length rs
