-- The first answer that a question has, asked of 0, 1, 2 and so on. Assumes nothing.
use Rattle.std.specs.Prelude.{ℕ, zero, suc, ◌+◌, Bool, cond, is_some, Some, None, Option}

-- the first of the two that is there
abbrev pub or_else : {A : Type 0} → Option A → Option A → Option A
or_else None y = y
or_else (Some x) y = Some x

-- the value where the fact holds, else nothing
abbrev pub when : {A : Type 0} → Bool → A → Option A
when b x = cond b (Some x) None

-- the first answer below n
unfoldable pub first : {A : Type 0} → (ℕ → Option A) → ℕ → Option A
first t zero = None
first t (suc n) = or_else (first t n) (t n)

-- the first number below n of which the fact holds
abbrev pub first_below : (ℕ → Bool) → ℕ → Option ℕ
first_below t n = first (λ k. when (t k) k) n

-- it holds of some number below n
abbrev pub any_below : (ℕ → Bool) → ℕ → Bool
any_below t n = is_some (first_below t n)

-- of how many numbers below n it holds
unfoldable pub count_below : (ℕ → Bool) → ℕ → ℕ
count_below t zero = 0
count_below t (suc n) = count_below t n + cond (t n) 1 0
