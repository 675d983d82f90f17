-- Things that are put behind others, or found among them. Assumes nothing.
use Rattle.std.proofs.Common.{◌≡◌, ℕ, ◌+◌, ◌<◌, ◌≤◌, List, [], ◌∷◌, ◌++◌, map, set, Ok, Err, Result, inl, inr, arith}
use Rattle.std.proofs.lemmas.List.{length-set}
use Rattle.terms.specs.declared.Reason.{Reason}
use Rattle.terms.specs.declared.Refusal.{Refusal}
use Rattle.places.specs.Finding.{Absent}
use Rattle.types.specs.Facts.{Apart}
use Rattle.pool.specs.declared.store.slots.Slots.{Slots}
use Rattle.pool.specs.Slots.{room, live, Pushed, Push, Intern}
use Rattle.pool.proofs.Places.{map_more_set, apart_more}

-- one more thing, by what it shows
pub mapped : {T B : Type 0} {most : ℕ} {s s' : Slots T most} {n n' k : ℕ} {x : T} (f : T → B) → Pushed s n x k s' n' → map f (live s' n') ≡ map f (live s n) ++ f x ∷ []
mapped {s = s} {n = n} {x = x} f q = rw (q.places, q.count) (map_more_set f s.places.now n x (omega (arith, q.room)))

-- there is as much room as before
pub same_room : {T : Type 0} {most : ℕ} {s s' : Slots T most} {n n' k : ℕ} {x : T} → Pushed s n x k s' n' → room s' ≡ room s
same_room q = grind (arith, q.places, length-set)

-- what holds of places and their height still does, if it does with one thing more
pub pushed : {T : Type 0} {most : ℕ} (P : List T → ℕ → Type 0) {s s' : Slots T most} {n n' : ℕ} {x : T} {full : Reason} (a : Result ℕ Refusal) → Push s n x full a s' n' → P s.places.now s.high → (n < room s → P (set s.places.now n x) (n + 1)) → P s'.places.now s'.high
pushed P (Ok k) h p more = rw (h.done.places, h.done.high) (more h.done.room)
pushed P (Err e) h p more = rw h.done.0 p

-- and if it does with one more that was not there
pub interned : {T : Type 0} {most : ℕ} (P : List T → ℕ → Type 0) (s s' : Slots T most) (n n' : ℕ) (x : T) (full : Reason) (a : Result ℕ Refusal) → Intern s n x full a s' n' → P s.places.now s.high → (Absent (live s n) x → n < room s → P (set s.places.now n x) (n + 1)) → P s'.places.now s'.high
interned P s s' n n' x full (Ok k) (inl h) p more = rw h.same p
interned P s s' n n' x full (Err e) (inl h) p more = absurd h
interned P s s' n n' x full a (inr h) p more = pushed P a h.1 p (more h.0)

-- things that are apart still are
pub apart_interned : {T : Type 0} {most : ℕ} (s s' : Slots T most) (n n' : ℕ) (x : T) (full : Reason) (a : Result ℕ Refusal) → Intern s n x full a s' n' → Apart s.places.now s.high → n ≤ s.high → Apart s'.places.now s'.high
apart_interned s s' n n' x full a h p le = interned Apart s s' n n' x full a h p (λ none room. apart_more s.places.now s.high n x p le (omega arith) none)
