-- Functions and entries that are appended or counted back. Assumes nothing.
use Rattle.std.proofs.Common.{length, ◌≡◌, ℕ, ◌+◌, ◌≤◌, true, map, take, Result, sym, refl, ap, ◌∙◌, arith}
use Rattle.std.proofs.lemmas.List.{take-map, take-take}
use Rattle.std.proofs.lemmas.Result.{MatchResult-weaker}
use Rattle.terms.specs.declared.Reason.{Reason}
use Rattle.terms.specs.declared.Reason.TheVariants.{FunctionsFull, PlanFull}
use Rattle.terms.specs.declared.Refusal.{Refusal}
use Rattle.places.specs.declared.function.Function.{Function}
use Rattle.places.specs.declared.entry.Entry.{Entry}
use Rattle.places.specs.declared.stamped.Stamped.{Stamped}
use Rattle.types.specs.Trees.{tree}
use Rattle.pool.specs.declared.store.Counts.{Counts}
use Rattle.pool.specs.declared.store.Memory.{Memory}
use Rattle.pool.specs.declared.store.slots.Slots.{Slots}
use Rattle.pool.specs.Facts.{stamp_at, Rising}
use Rattle.pool.specs.Slots.{room, live, newest, contents, Push, Pushed, Back}
use Rattle.pool.specs.Held.{seen, rooms_of, vouches}
use Rattle.pool.specs.Laws.{Well}
use Rattle.pool.specs.Rows.{Rows, function_rows, entry_rows, rows, Appended, RowAdd, RowBack}
use Rattle.pool.proofs.Pushed.{mapped, same_room, pushed}
use Rattle.pool.proofs.Stamps.{stamp-set_same, rising_more, newest-more, newest-less}
use Rattle.pool.proofs.Vouched.{Holds, held, vouch, well, still}
use Rattle.pool.proofs.Alike.{SameSlots, same_slots, same_memory}

module _ {T : Type 0} {most : ℕ} {s s' : Slots (Stamped T) most} {n n' : ℕ} {x : Stamped T} where
  -- a row that was put behind others has its stamp, and is over as many types
  pub stamped : {k : ℕ} → Pushed s n x k s' n' → stamp_at s'.places.now k ≡ x.types
  stamped q = rw (q.places, q.place) (stamp-set_same s.places.now n x (omega (arith, q.room)))

  pub holds_pushed : {k : ℕ} → Pushed s n x k s' n' → Holds s' n' x.types
  holds_pushed q = record { count = omega (arith, q.high, q.count); newest = rw (q.places, q.count) (omega (arith, newest-more s.places.now n x (omega (arith, q.room)))) }

  -- stamps do not fall where one is put behind that is no lower
  pub rising_pushed : {full : Reason} (a : Result ℕ Refusal) → Push s n x full a s' n' → Rising s.places.now s.high → Holds s n x.types → Rising s'.places.now s'.high
  rising_pushed a p r h = pushed Rising a p r (λ l. rising_more s.places.now s.high n x r h.count (omega arith) h.newest)

-- the first rows of the first rows
front : {T : Type 0} {most : ℕ} (s : Slots (Stamped T) most) (k n : ℕ) → k ≤ n → contents s k ≡ take k (contents s n)
front s k n h = sym (take-map (λ x. x.content) k (live s n) ∙ ap (map (λ x. x.content)) (take-take k n s.places.now h))

-- one row less is over no more types
holds_back : {T : Type 0} {most : ℕ} (s : Slots (Stamped T) most) (k n types : ℕ) → Rising s.places.now s.high → Holds s n types → k + 1 ≡ n → Holds s k types
holds_back s k n types r h e = record { count = omega (arith, h.count); newest = omega (arith, newest-less s.places.now s.high k r (omega (arith, h.count)), h.newest, ap (newest s.places.now) e) }

module _ {T : Type 0} (R : Rows T) (m m' : Memory) (c c' : Counts) (v : vouches m c ≡ true) (count : length (rows R m c) ≡ R.count c) where
  -- one row more, where the rest lies alike
  appended : {k : ℕ} (row : Stamped T) → row.types ≡ c.types → Pushed (R.slots m) (R.count c) row k (R.slots m') (R.count c') → SameSlots m.types m'.types → (Holds (R.slots m') (R.count c') c.types → room (R.slots m') ≡ room (R.slots m) → (seen m' c' ≡ R.with (seen m c) (rows R m' c')) × (rooms_of m' ≡ rooms_of m) × Well m' c') → Appended R m c row.content k m' c'
  appended row e q t rest = let z = rest (rw (← e) (holds_pushed q)) (same_room q) in record { place = q.place ∙ sym count; after = mapped (λ y. y.content) q; stamp = stamped q ∙ e; frame = z.0; keeps = λ j. ap (λ rs. tree rs j) t.places; rooms = z.1; well = z.2 }

  -- or none, and then nothing changes
  added : (row : Stamped T) (a : Result ℕ Refusal) → Push (R.slots m) (R.count c) row R.full a (R.slots m') (R.count c') → ((k : ℕ) → Pushed (R.slots m) (R.count c) row k (R.slots m') (R.count c') → Appended R m c row.content k m' c') → (R.slots m' ≡ R.slots m → R.count c' ≡ R.count c → (c' ≡ c) × (m' ≡ m)) → RowAdd R m c row.content a m' c'
  added row a p more same = record { refused = grind arith; done = MatchResult-weaker a p.done more (λ r q. same q.0 q.1) }

  -- one row less
  taken : (a : Result ℕ Refusal) → Back (R.count c) a (R.count c') → ((k : ℕ) → k + 1 ≡ R.count c → R.count c' ≡ k → (seen m c' ≡ R.with (seen m c) (rows R m c')) × Well m c') → (R.count c' ≡ R.count c → c' ≡ c) → RowBack R m c a c'
  taken a p rest same = record {
    refused = grind arith;
    done = MatchResult-weaker a p.done
        (λ k q. let z = rest k q.0 q.1 in record { place = q.0 ∙ sym count; after = rw q.1 (front (R.slots m) k (R.count c) (omega arith)); frame = z.0; well = z.1 })
        (λ r q. (same q, refl));
  }

-- one function more, one entry more
pub function_added : (m m' : Memory) (c : Counts) (n k : ℕ) (row : Stamped Function) → vouches m c ≡ true → row.types ≡ c.types → Pushed m.functions c.functions row k m'.functions n → SameSlots m.labels m'.labels → SameSlots m.types m'.types → SameSlots m.entries m'.entries → Appended function_rows m c row.content k m' (record c { functions = n })
function_added m m' c n k row v et q l t e =
    let u = vouch m c v in
    appended function_rows m m' c (record c { functions = n }) v (well m c u).functions_count row et q t (λ h r. (cc (l.places, t.places, e.places), cc (l.places, t.places, e.places, r), still u l.high t.high refl refl h (held e u.entries)))

pub entry_added : (m m' : Memory) (c : Counts) (n k : ℕ) (row : Stamped Entry) → vouches m c ≡ true → row.types ≡ c.types → Pushed m.entries c.entries row k m'.entries n → SameSlots m.labels m'.labels → SameSlots m.types m'.types → SameSlots m.functions m'.functions → Appended entry_rows m c row.content k m' (record c { entries = n })
entry_added m m' c n k row v et q l t f =
    let u = vouch m c v in
    appended entry_rows m m' c (record c { entries = n }) v (well m c u).entries_count row et q t (λ h r. (cc (l.places, t.places, f.places), cc (l.places, t.places, f.places, r), still u l.high t.high refl refl (held f u.functions) h))

-- a function is added or refused, an entry is
pub function_add : (m m' : Memory) (c : Counts) (n : ℕ) (row : Stamped Function) (a : Result ℕ Refusal) → vouches m c ≡ true → row.types ≡ c.types → Push m.functions c.functions row FunctionsFull a m'.functions n → m'.labels ≡ m.labels → m'.types ≡ m.types → m'.entries ≡ m.entries → RowAdd function_rows m c row.content a m' (record c { functions = n })
function_add m m' c n row a v et p l t e =
    added function_rows m m' c (record c { functions = n }) v (well m c (vouch m c v)).functions_count row a p
    (λ k q. function_added m m' c n k row v et q (same_slots l) (same_slots t) (same_slots e))
    (λ s q. (ap (λ j. record c { functions = j }) q, same_memory m m' l t s e))

pub entry_add : (m m' : Memory) (c : Counts) (n : ℕ) (row : Stamped Entry) (a : Result ℕ Refusal) → vouches m c ≡ true → row.types ≡ c.types → Push m.entries c.entries row PlanFull a m'.entries n → m'.labels ≡ m.labels → m'.types ≡ m.types → m'.functions ≡ m.functions → RowAdd entry_rows m c row.content a m' (record c { entries = n })
entry_add m m' c n row a v et p l t f =
    added entry_rows m m' c (record c { entries = n }) v (well m c (vouch m c v)).entries_count row a p
    (λ k q. entry_added m m' c n k row v et q (same_slots l) (same_slots t) (same_slots f))
    (λ s q. (ap (λ j. record c { entries = j }) q, same_memory m m' l t f s))

-- the newest is counted back, or there is none
pub function_back : (m : Memory) (c : Counts) (n : ℕ) (a : Result ℕ Refusal) → vouches m c ≡ true → Back c.functions a n → RowBack function_rows m c a (record c { functions = n })
function_back m c n a v p =
    let u = vouch m c v in
    taken function_rows m m c (record c { functions = n }) v (well m c u).functions_count a p
    (λ k e q. (refl, still u refl refl refl refl (rw q (holds_back m.functions k c.functions c.types m.functions_rising u.functions e)) u.entries))
    (λ q. ap (λ j. record c { functions = j }) q)

pub entry_back : (m : Memory) (c : Counts) (n : ℕ) (a : Result ℕ Refusal) → vouches m c ≡ true → Back c.entries a n → RowBack entry_rows m c a (record c { entries = n })
entry_back m c n a v p =
    let u = vouch m c v in
    taken entry_rows m m c (record c { entries = n }) v (well m c u).entries_count a p
    (λ k e q. (refl, still u refl refl refl refl u.functions (rw q (holds_back m.entries k c.entries c.types m.entries_rising u.entries e))))
    (λ q. ap (λ j. record c { entries = j }) q)
