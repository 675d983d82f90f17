-- Stamps of places, one after another. Assumes nothing.
use Rattle.std.proofs.Common.{◌≡◌, ℕ, ◌+◌, ◌-◌, ◌<◌, ◌≤◌, ◌≢◌, List, length, set, ap, ⊎_elim, arith}
use Rattle.std.proofs.lemmas.Grind.{common_steps}
use Rattle.std.proofs.lemmas.List.{map-set}
use Rattle.std.proofs.lemmas.Bool.{cases_lt}
use Rattle.std.proofs.lemmas.Bool.Decides.{nat_tests}
use Rattle.places.specs.declared.stamped.Stamped.{Stamped}
use Rattle.pool.specs.Facts.{stamp_at, Rising}
use Rattle.pool.specs.Slots.{newest}

pub stamp-set_same : {T : Type 0} (xs : List (Stamped T)) (n : ℕ) (x : Stamped T) → n < length xs → stamp_at (set xs n x) n ≡ x.types
stamp-set_same xs n x h = grind (arith, common_steps, map-set)

pub stamp-set_other : {T : Type 0} (xs : List (Stamped T)) (n i : ℕ) (x : Stamped T) → i ≢ n → stamp_at (set xs n x) i ≡ stamp_at xs i
stamp-set_other xs n i x h = grind (arith, common_steps, map-set)

-- the newest stamp of one place more is that place's
pub newest-more : {T : Type 0} (xs : List (Stamped T)) (n : ℕ) (x : Stamped T) → n < length xs → newest (set xs n x) (n + 1) ≡ x.types
newest-more xs n x h = grind (arith, nat_tests, stamp-set_same)

-- and that of one place less is no higher
pub newest-less : {T : Type 0} (xs : List (Stamped T)) (high n : ℕ) → Rising xs high → n < high → newest xs n ≤ newest xs (n + 1)
newest-less xs high n rising h = grind (arith, nat_tests, rising (n - 1) n)

-- stamps that do not fall are at most the newest
pub over : {T : Type 0} (xs : List (Stamped T)) (high n types : ℕ) → Rising xs high → n ≤ high → newest xs n ≤ types → (i : ℕ) → i < n → stamp_at xs i ≤ types
over xs high n types rising le h i l = grind (arith, nat_tests, rising i (n - 1))

-- one more place, stamped no lower than the newest
pub rising_more : {T : Type 0} (xs : List (Stamped T)) (high n : ℕ) (x : Stamped T) → Rising xs high → n ≤ high → n < length xs → newest xs n ≤ x.types → Rising (set xs n x) (n + 1)
rising_more xs high n x all le lt low i j h =
    let si = stamp-set_other xs n i x (omega arith) in
    ⊎_elim
    (λ l. omega (arith, stamp-set_other xs n j x (omega arith), all i j (h.0, omega arith)))
    (λ l. let q : j ≡ n = omega arith in omega (arith, ap (stamp_at (set xs n x)) q, stamp-set_same xs n x lt, over xs high n x.types all le low i (omega arith)))
    (cases_lt j n)
