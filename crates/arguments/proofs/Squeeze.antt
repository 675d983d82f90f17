-- As many numbers below n as there are, no two alike, are all of them.
use Rattle.std.proofs.Common.{◌≡◌, ℕ, suc, ◌<◌, Bool, true, false, cond, eqb, map, length, get_or, sym, refl, ◌∙◌, arith}
use Rattle.std.specs.List.{range_with_len}
use Rattle.std.proofs.lemmas.Bool.{eqb-true, eqb-false, ne_eqb}
use Rattle.std.proofs.lemmas.Bool.Decides.{nat_tests}
use Rattle.std.proofs.lemmas.List.Folds.{Any-from_list_any}
use Rattle.std.proofs.lemmas.List.FromFn.{length-map-range_with_len, get_or-map-range_with_len}
use Rattle.std.proofs.lemmas.Map.Keys.{IsDistinct-from_apart}
use Rattle.std.proofs.lemmas.Map.Steps.{length-le_from_distinct_below}
use Rattle.arguments.specs.First.{any_below}
use Rattle.arguments.proofs.Firsts.{any_there, any_none}

-- f is one to one below n
abbrev pub Apart : ℕ → (ℕ → ℕ) → Type 0
Apart n f = (j k : ℕ) → j < n → k < n → f j ≡ f k → j ≡ k

module _ (n : ℕ) (f : ℕ → ℕ) (below : (k : ℕ) → k < n → f k < n) (apart : Apart n f) (i : ℕ) (l : i < n) where
  -- the values of f, and i behind them
  abbrev value : ℕ → ℕ
  value k = cond (eqb k n) i (f k)

  too_many : ((k : ℕ) → k < n → f k ≡ i → ⊥) → ⊥
  too_many missed =
      let values = map value (range_with_len 0 (suc n)) in
      let at : (k : ℕ) → k < suc n → (d : ℕ) → get_or values k d ≡ value k = λ k p d. get_or-map-range_with_len value 0 (suc n) k k d p (omega arith) in
      let long : length values ≡ suc n = length-map-range_with_len value 0 (suc n) in
      let differ : (j k : ℕ) → j < k → k < suc n → value j ≡ value k → ⊥ = λ j k p q e. grind (arith, nat_tests, apart j k, missed j) in
      let small : (k : ℕ) → k < suc n → value k < n = λ k p. grind (arith, nat_tests, below k) in
      let few = length-le_from_distinct_below values n
      (IsDistinct-from_apart eqb values (λ j k d p q. ne_eqb _ _ (λ e. differ j k p (omega arith) (sym (at j (omega arith) d) ∙ e ∙ at k (omega arith) d))))
      (λ q h. let a = Any-from_list_any (eqb q) values h in omega (arith, eqb-true q a.1 a.4, a.3, at a.0 (omega (arith, a.2)) a.1, small a.0 (omega (arith, a.2)))) in
      omega arith

  -- one to one into the numbers below n, f comes to each of them
  pub onto : (k : ℕ) × (k < n) × (f k ≡ i)
  onto = go (any_below (λ k. eqb (f k) i) n) refl
    where
      go : (b : Bool) → any_below (λ k. eqb (f k) i) n ≡ b → (k : ℕ) × (k < n) × (f k ≡ i)
      go true e = let s = any_there (λ k. eqb (f k) i) n e in (s.0, s.1, eqb-true (f s.0) i s.2)
      go false e = absurd (too_many (λ k p. eqb-false (f k) i (any_none (λ k. eqb (f k) i) n e k p)))
