-- What the library's words say of a list, in the words of First.
use Rattle.std.proofs.Common.{◌≡◌, ℕ, zero, suc, ◌+◌, ◌≤◌, Bool, true, false, cond, eqb, List, length, get_or, take, is_some, Some, None, Option, count_by, sym, refl, ap, ◌∙◌, arith, add-one}
use Rattle.std.specs.List.{list_any, position}
use Rattle.std.proofs.lemmas.Bool.{both_ways, false_from_ne_true, lt-ltb, le-ltb}
use Rattle.std.proofs.lemmas.List.{take_all, get_or_default, get_or-take, length-take-le}
use Rattle.std.proofs.lemmas.List.Folds.{Any-from_list_any, list_any_at}
use Rattle.std.proofs.lemmas.List.Sums.{sum_by_more, position_or_len_is}
use Rattle.arguments.specs.First.{when, first_below, any_below, count_below}
use Rattle.arguments.specs.Gathering.{giver_in}
use Rattle.arguments.proofs.Firsts.{first_same, below_none, below_some, any_hit, none_any}

module _ {X : Type 0} (p : X → Bool) (xs : List X) (d : X) where
  -- the element at i passes
  abbrev at : ℕ → Bool
  at i = p (get_or xs i d)

  pub position_is : position p xs ≡ first_below at (length xs)
  position_is = go (first_below at (length xs)) refl
    where
      go : (o : Option ℕ) → first_below at (length xs) ≡ o → position p xs ≡ o
      go None e = rw (position_or_len_is p xs (length xs) d (omega arith) (below_none at (length xs) e) (λ h. absurd (omega arith)), le-ltb (length xs) (length xs) (omega arith))
      go (Some i) e =
          let s = below_some at (length xs) i e in
          rw (position_or_len_is p xs i d (omega (arith, s.0)) s.2 (λ h. s.1), lt-ltb i (length xs) s.0)

  pub any_is : list_any p xs ≡ any_below at (length xs)
  any_is = go (list_any p xs) refl
    where
      go : (b : Bool) → list_any p xs ≡ b → b ≡ any_below at (length xs)
      go true e = let a = Any-from_list_any p xs e in sym (any_hit at (length xs) a.0 a.2 (ap p (get_or_default xs a.0 d a.1 a.2 ∙ a.3) ∙ a.4))
      go false e = sym (none_any at (length xs) (λ k l. false_from_ne_true (at k) (λ h. both_ways (list_any p xs) e (list_any_at p xs k d l h))))

  counts : (n : ℕ) → n ≤ length xs → count_by p (take n xs) ≡ count_below at n
  unfolding count_below
  counts zero l = refl
  counts (suc n) l = ap (λ k. count_by p (take k xs)) (sym (add-one n)) ∙ sum_by_more (λ x. cond (p x) 1 0) xs n d l ∙ ap (λ m. m + cond (at n) 1 0) (counts n (omega arith))

  pub count_is : count_by p xs ≡ count_below at (length xs)
  count_is = ap (count_by p) (sym (take_all (length xs) xs (omega arith))) ∙ counts (length xs) (omega arith)

-- who has a place among the first n, from the places of those alone
module _ (ps : List ℕ) (n : ℕ) (l : n ≤ length ps) (k : ℕ) where
  pub giver_taken : giver_in (take n ps) (length (take n ps)) k ≡ giver_in ps n k
  giver_taken =
      ap (λ (m : ℕ). giver_in (take n ps) m k) (length-take-le n ps l)
      ∙ first_same (λ i. when (eqb (get_or (take n ps) i 0) k) i) (λ i. when (eqb (get_or ps i 0) k) i) n (λ i h. ap (λ (m : ℕ). when (eqb m k) i) (get_or-take n ps i 0 h))

  pub giver_there : list_any (λ p. eqb p k) (take n ps) ≡ is_some (giver_in ps n k)
  giver_there = any_is (λ p. eqb p k) (take n ps) 0 ∙ ap is_some giver_taken
