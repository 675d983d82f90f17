-- A list with blanks behind it, as many as there is room for. Assumes nothing.
use Rattle.std.specs.Prelude.{◌≡◌, ℕ, ◌-◌, ◌≤◌, List, ◌++◌, length, take, drop, replicate}
use Rattle.std.proofs.Common.{arith}
use Rattle.std.proofs.lemmas.Grind.{common_steps}
use Rattle.std.proofs.lemmas.List.{take-append-drop}

-- the first n of m things are n
pub length-front : {A : Type 0} (xs : List A) (n m : ℕ) → (n ≤ m) × (length xs ≡ m) → length (take n xs) ≡ n
length-front xs n m h = grind (arith, common_steps)

-- where blanks stand behind the first n, these and blanks are all
pub front-padded : {A : Type 0} (xs : List A) (n m : ℕ) (b : A) → (n ≤ m) × (length xs ≡ m) × (drop n xs ≡ replicate (m - n) b) → take n xs ++ replicate (m - length (take n xs)) b ≡ xs
front-padded xs n m b h = rw (length-front xs n m (h.0, h.1), ← h.2) (take-append-drop n xs)
