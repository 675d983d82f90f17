-- What appending a function or an entry comes to, and counting it back. Assumes nothing.
use Rattle.std.specs.Prelude.{◌≡◌, ℕ, ◌+◌, List, [], ◌∷◌, ◌++◌, length, take, Result}
use Rattle.terms.specs.Limits.{most_functions, most_entries}
use Rattle.terms.specs.declared.Reason.{Reason}
use Rattle.terms.specs.declared.Reason.TheVariants.{FunctionsFull, PlanFull}
use Rattle.terms.specs.declared.Refusal.{Refusal}
use Rattle.places.specs.declared.function.Function.{Function}
use Rattle.places.specs.declared.entry.Entry.{Entry}
use Rattle.places.specs.declared.stamped.Stamped.{Stamped}
use Rattle.pool.specs.declared.store.Counts.{Counts}
use Rattle.pool.specs.declared.store.Memory.{Memory}
use Rattle.pool.specs.declared.store.slots.Slots.{Slots}
use Rattle.pool.specs.Facts.{stamp_at}
use Rattle.pool.specs.Slots.{room, contents}
use Rattle.pool.specs.Held.{State, means, seen, rooms_of}
use Rattle.pool.specs.Reasons.{why_full, why_back}
use Rattle.pool.specs.Laws.{Well}
use Rattle.pool.specs.Steps.{Step}

-- one kind of rows: where they lie, how many are live, why one more is refused, and a state with others
pub record Rows (T : Type 0) : Type 1 where
  pub most : ℕ
  pub slots : Memory → Slots (Stamped T) most
  pub count : Counts → ℕ
  pub full : Reason
  pub with : State → List T → State

abbrev pub function_rows : Rows Function
function_rows = record { most = most_functions; slots = λ m. m.functions; count = λ c. c.functions; full = FunctionsFull; with = λ s fs. record s { functions = fs } }

abbrev pub entry_rows : Rows Entry
entry_rows = record { most = most_entries; slots = λ m. m.entries; count = λ c. c.entries; full = PlanFull; with = λ s es. record s { entries = es } }

-- the live rows
abbrev pub rows : {T : Type 0} → Rows T → Memory → Counts → List T
rows R m c = contents (R.slots m) (R.count c)

-- x was appended at the place k, stamped with how many types are live, and nothing else is changed
pub record Appended {T : Type 0} (R : Rows T) (m : Memory) (c : Counts) (x : T) (k : ℕ) (m' : Memory) (c' : Counts) : Type 0 where
  pub place : k ≡ length (rows R m c)
  pub after : rows R m' c' ≡ rows R m c ++ x ∷ []
  pub stamp : stamp_at (R.slots m').places.now k ≡ c.types
  pub frame : seen m' c' ≡ R.with (seen m c) (rows R m' c')
  pub keeps : (n : ℕ) → means m' n ≡ means m n
  pub rooms : rooms_of m' ≡ rooms_of m
  pub well : Well m' c'

abbrev pub RowAdd : {T : Type 0} → Rows T → Memory → Counts → T → Result ℕ Refusal → Memory → Counts → Type 0
RowAdd R m c x a m' c' = Step (why_full m c (room (R.slots m)) (R.count c) R.full) m c a m' c' (λ k. Appended R m c x k m' c')

-- the newest row, at the place k, was counted back, and nothing else is changed
pub record TakenBack {T : Type 0} (R : Rows T) (m : Memory) (c : Counts) (k : ℕ) (c' : Counts) : Type 0 where
  pub place : k + 1 ≡ length (rows R m c)
  pub after : rows R m c' ≡ take k (rows R m c)
  pub frame : seen m c' ≡ R.with (seen m c) (rows R m c')
  pub well : Well m c'

abbrev pub RowBack : {T : Type 0} → Rows T → Memory → Counts → Result ℕ Refusal → Counts → Type 0
RowBack R m c a c' = Step (why_back m c (R.count c)) m c a m c' (λ k. TakenBack R m c k c')
