-- What becomes of lent places that are written one behind another. Assumes nothing.
use Rattle.std.specs.Prelude.{◌≡◌, ℕ, ◌+◌, ◌-◌, ◌<◌, ◌⊎◌, min, Bool, cond, ◌&&◌, List, [], ◌∷◌, map, length, take, slice_set, Some, Result, IsOkAnd, MatchResult, ◌==◌, nat_le}
use Rattle.std.specs.List.{slice_get}
use Rattle.terms.specs.declared.Reason.{Reason}
use Rattle.terms.specs.declared.Reason.TheVariants.{NothingToTakeBack}
use Rattle.terms.specs.declared.Refusal.{Refusal}
use Rattle.terms.specs.Refusals.{refusal_of, plainly, first}
use Rattle.places.specs.declared.stamped.Stamped.{Stamped}
use Rattle.places.specs.Finding.{Absent}
use Rattle.pool.specs.declared.store.slots.Slots.{Slots}
use Rattle.pool.specs.Facts.{stamp_at}

-- how many places there are: as many as were lent, up to the most
abbrev pub room : {T : Type 0} {most : ℕ} → Slots T most → ℕ
room {most = most} s = min (length s.places.now) most

-- the first n places
abbrev pub live : {T : Type 0} {most : ℕ} → Slots T most → ℕ → List T
live s n = take n s.places.now

-- the stamp of the last of the first n places; 0 where there is none
abbrev pub newest : {T : Type 0} → List (Stamped T) → ℕ → ℕ
newest xs n = cond (n == 0) 0 (stamp_at xs (n - 1))

-- the first n places hold something, written when at most so many types were live
abbrev pub holds : {T : Type 0} {most : ℕ} → Slots (Stamped T) most → ℕ → ℕ → Bool
holds s n types = nat_le n s.high && nat_le (newest s.places.now n) types

-- what the first n places hold, but for the stamps
abbrev pub contents : {T : Type 0} {most : ℕ} → Slots (Stamped T) most → ℕ → List T
contents s n = map (λ x. x.content) (live s n)

-- of so many places the first hold the things of a list
pub record Made {T : Type 0} {most : ℕ} (size : ℕ) (things : List T) (s : Slots T most) : Type 0 where
  pub places : length s.places.now ≡ size
  pub high : s.high ≡ length things
  pub first : live s (length things) ≡ things

-- x stands behind the first n, and is counted
pub record Pushed {T : Type 0} {most : ℕ} (s : Slots T most) (n : ℕ) (x : T) (k : ℕ) (s' : Slots T most) (n' : ℕ) : Type 0 where
  pub place : k ≡ n
  pub room : n < room s
  pub places : s'.places.now ≡ slice_set s.places.now n x
  pub high : s'.high ≡ n + 1
  pub count : n' ≡ n + 1

-- x is put behind the first n; refused where no place is left, and then nothing changes
pub record Push {T : Type 0} {most : ℕ} (s : Slots T most) (n : ℕ) (x : T) (full : Reason) (a : Result ℕ Refusal) (s' : Slots T most) (n' : ℕ) : Type 0 where
  pub refused : refusal_of a ≡ plainly (first ((nat_le (room s) n, full) ∷ []))
  pub done : MatchResult a (λ k. Pushed s n x k s' n') (λ _. (s' ≡ s) × (n' ≡ n))

-- x is at the place k of the first n already, and nothing changes
pub record Had {T : Type 0} {most : ℕ} (s : Slots T most) (n : ℕ) (x : T) (k : ℕ) (s' : Slots T most) (n' : ℕ) : Type 0 where
  pub there : slice_get (live s n) k ≡ Some x
  pub same : s' ≡ s
  pub count : n' ≡ n

-- the place of x among the first n, or it is put behind them
abbrev pub Intern : {T : Type 0} {most : ℕ} → Slots T most → ℕ → T → Reason → Result ℕ Refusal → Slots T most → ℕ → Type 0
Intern s n x full a s' n' = IsOkAnd a (λ k. Had s n x k s' n') ⊎ (Absent (live s n) x × Push s n x full a s' n')

-- the last of n is counted back; refused where there is none, and then nothing changes
pub record Back (n : ℕ) (a : Result ℕ Refusal) (n' : ℕ) : Type 0 where
  pub refused : refusal_of a ≡ plainly (first ((n == 0, NothingToTakeBack) ∷ []))
  pub done : MatchResult a (λ k. (k + 1 ≡ n) × (n' ≡ k)) (λ _. n' ≡ n)
