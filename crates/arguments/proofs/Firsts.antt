-- Laws of the first answer below n.
use Rattle.std.proofs.Common.{◌≡◌, ℕ, zero, suc, ◌<◌, Bool, true, false, ◌⊎◌, is_some, Some, None, Option, refl, ap, subst, inl, inr, arith}
use Rattle.std.proofs.lemmas.Bool.{cases_eq, both_ways, true_from_ne_false}
use Rattle.arguments.specs.First.{or_else, when, first, first_below, any_below, count_below}

-- nothing answers below n
abbrev pub Quiet : {A : Type 0} → (ℕ → Option A) → ℕ → Type 0
Quiet t n = (k : ℕ) → k < n → t k ≡ None

module _ {A : Type 0} where
  or_none : (x y : Option A) → or_else x y ≡ None → (x ≡ None) × (y ≡ None)
  or_none None y e = (refl, e)
  or_none (Some a) y e = cc

  or_some : (x y : Option A) (a : A) → or_else x y ≡ Some a → (x ≡ Some a) ⊎ ((x ≡ None) × (y ≡ Some a))
  or_some None y a e = inr (refl, e)
  or_some (Some b) y a e = inl e

  pub first-none : (t : ℕ → Option A) (n : ℕ) → first t n ≡ None → Quiet t n
  unfolding first
  first-none t zero e k h = absurd (omega arith)
  first-none t (suc n) e k h =
      let p = or_none (first t n) (t n) e in
      elim (cases_eq k n) [ inl q ↦ rw q p.1 | inr q ↦ first-none t n p.0 k (omega arith) ]

  pub none_first : (t : ℕ → Option A) (n : ℕ) → Quiet t n → first t n ≡ None
  unfolding first
  none_first t zero h = refl
  none_first t (suc n) h = rw (none_first t n (λ k l. h k (omega arith))) (h n (omega arith))

  -- the first answer is given, and by none before
  pub first_some : (t : ℕ → Option A) (n : ℕ) (a : A) → first t n ≡ Some a → (k : ℕ) × (k < n) × (t k ≡ Some a) × Quiet t k
  unfolding first
  first_some t zero a e = cc
  first_some t (suc n) a e = elim (or_some (first t n) (t n) a e) [
    | inl p ↦ let r = first_some t n a p in (r.0, omega (arith, r.1), r.2, r.3)
    | inr p ↦ (n, omega arith, p.1, first-none t n p.0)
  ]

  pub first_hit : (t : ℕ → Option A) (n k : ℕ) (a : A) → k < n → Quiet t k → t k ≡ Some a → first t n ≡ Some a
  unfolding first
  first_hit t zero k a h e q = absurd (omega arith)
  first_hit t (suc n) k a h e q = elim (cases_eq k n) [
    | inl p ↦ rw (none_first t n (λ j l. e j (omega arith))) (rw p at q)
    | inr p ↦ rw (first_hit t n k a (omega arith) e q)
  ]

  pub first_same : (t u : ℕ → Option A) (n : ℕ) → ((k : ℕ) → k < n → t k ≡ u k) → first t n ≡ first u n
  unfolding first
  first_same t u zero h = refl
  first_same t u (suc n) h = rw (first_same t u n (λ k l. h k (omega arith)), h n (omega arith))

-- what `when` says
pub when-none : {A : Type 0} (b : Bool) (x : A) → when b x ≡ None → b ≡ false
when-none true x e = cc
when-none false x e = refl

pub when-some : {A : Type 0} (b : Bool) (x y : A) → when b x ≡ Some y → (b ≡ true) × (x ≡ y)
when-some true x y e = (refl, cc)
when-some false x y e = cc

-- where one is there
pub some-there : {A : Type 0} (o : Option A) → is_some o ≡ true → (a : A) × (o ≡ Some a)
some-there None e = cc
some-there (Some a) e = (a, refl)

pub none-there : {A : Type 0} (o : Option A) → is_some o ≡ false → o ≡ None
none-there None e = refl
none-there (Some a) e = cc

-- the first number of which a fact holds
module _ (t : ℕ → Bool) (n : ℕ) where
  abbrev pub NoneBefore : ℕ → Type 0
  NoneBefore k = (j : ℕ) → j < k → t j ≡ false

  pub below_none : first_below t n ≡ None → NoneBefore n
  below_none e j l = when-none (t j) j (first-none (λ k. when (t k) k) n e j l)

  pub none_below : NoneBefore n → first_below t n ≡ None
  none_below h = none_first (λ k. when (t k) k) n (λ j l. ap (λ (b : Bool). when b j) (h j l))

  pub below_some : (k : ℕ) → first_below t n ≡ Some k → (k < n) × (t k ≡ true) × NoneBefore k
  below_some k e =
      let s = first_some (λ j. when (t j) j) n k e in
      let w = when-some (t s.0) s.0 k s.2 in
      subst (λ (j : ℕ). (j < n) × (t j ≡ true) × NoneBefore j) w.1 (s.1, w.0, λ j l. when-none (t j) j (s.3 j l))

  pub below_hit : (k : ℕ) → k < n → NoneBefore k → t k ≡ true → first_below t n ≡ Some k
  below_hit k l h e = first_hit (λ j. when (t j) j) n k k l (λ j m. ap (λ (b : Bool). when b j) (h j m)) (ap (λ (b : Bool). when b k) e)

  pub any_there : any_below t n ≡ true → (k : ℕ) × (k < n) × (t k ≡ true)
  any_there e = let s = some-there (first_below t n) e in let f = below_some s.0 s.1 in (s.0, f.0, f.1)

  pub any_none : any_below t n ≡ false → NoneBefore n
  any_none e = below_none (none-there (first_below t n) e)

  pub none_any : NoneBefore n → any_below t n ≡ false
  none_any h = ap is_some (none_below h)

  -- where one below n passes, some does
  pub any_hit : (k : ℕ) → k < n → t k ≡ true → any_below t n ≡ true
  any_hit k l e = true_from_ne_false (any_below t n) (λ f. both_ways (t k) (any_none f k l) e)

-- two facts that agree below n hold equally often there
pub count_same : (t u : ℕ → Bool) (n : ℕ) → ((k : ℕ) → k < n → t k ≡ u k) → count_below t n ≡ count_below u n
unfolding count_below
count_same t u zero h = refl
count_same t u (suc n) h = rw (count_same t u n (λ k l. h k (omega arith)), h n (omega arith))
