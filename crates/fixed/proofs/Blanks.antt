-- Blanks behind a list, one fewer for each thing more.
use Rattle.std.proofs.Common.{◌≡◌, ℕ, ◌+◌, ◌-◌, ◌<◌, List, ◌++◌, length, drop, replicate, ap, arith, slice_set}
use Rattle.std.proofs.lemmas.List.{drop-drop, drop-replicate, drop-set-lt}
use Rattle.std.proofs.Math.Seq.{drop-append_seam}

pub blanks-after : {A : Type 0} (xs : List A) (n m : ℕ) (x b : A) → (n < m) × (drop n xs ≡ replicate (m - n) b) → drop (n + 1) (slice_set xs n x) ≡ replicate (m - (n + 1)) b
blanks-after xs n m x b h =
    rw (drop-set-lt (n + 1) xs n x (omega arith), ← drop-drop 1 n xs, h.1, drop-replicate) (ap (λ k. replicate k b) (omega arith))

pub blanks-behind : {A : Type 0} (xs : List A) (m : ℕ) (b : A) → drop (length xs) (xs ++ drop (length xs) (replicate m b)) ≡ replicate (m - length xs) b
blanks-behind xs m b = rw (drop-append_seam xs, drop-replicate)
