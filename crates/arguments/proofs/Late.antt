-- Arguments without a name come before those with one: what the first named one tells, and the first unnamed one behind it.
use Rattle.std.proofs.Common.{◌≡◌, ℕ, ◌+◌, ◌-◌, ◌<◌, Bool, true, not, ◌⊎◌, List, length, get_or, drop, is_some, Some, None, Option, sym, refl, ap, ◌∙◌, inl, inr, arith, length-drop}
use Rattle.std.proofs.lemmas.Bool.{cases_lt, and_left, and_right, and_from, not-true, not-false, not_from_true, both_ways}
use Rattle.std.proofs.lemmas.List.{get_or-drop}
use Rattle.terms.specs.Refusals.{refusal}
use Rattle.terms.specs.declared.Reason.TheVariants.{PositionalAfterNamed}
use Rattle.arguments.specs.First.{when, first, first_below, any_below}
use Rattle.arguments.specs.Places.{named, late}
use Rattle.arguments.proofs.Firsts.{Quiet, NoneBefore, first_hit, none_first, below_none, below_some, none_any, any_hit}

module _ {N : Type 0} (names : List (Option N)) where
  -- not late: named, or behind no named one
  in_time : (k : ℕ) → (named names k ≡ true) ⊎ NoneBefore (named names) (length names) k → late names k ≡ None
  in_time k (inl e) = ap (λ b. when b (refusal PositionalAfterNamed k)) (and_left (not (named names k)) (any_below (named names) k) (not_from_true (named names k) e))
  in_time k (inr h) = ap (λ b. when b (refusal PositionalAfterNamed k)) (and_right (not (named names k)) (any_below (named names) k) (none_any (named names) k h))

  module _ (j : ℕ) (e : Some j ≡ first_below (named names) (length names)) (rest : List (Option N)) (is : rest ≡ drop j names) where
    -- an argument at or behind the first named one has no name
    abbrev unnamed : ℕ → Bool
    unnamed i = not (named rest i)

    behind : (i k : ℕ) → j + i ≡ k → named rest i ≡ named names k
    behind i k q = ap (λ xs. named xs i) is ∙ ap is_some (get_or-drop j names i None ∙ ap (λ m. get_or names m None) q)

    long : length rest + j ≡ length names
    long = let s = below_some (named names) (length names) j (sym e) in omega (arith, ap length is, length-drop j names, s.0)

    quiet : (m : ℕ) → NoneBefore unnamed m m → Quiet (late names) (j + m)
    quiet m h k l = elim (cases_lt k j) [
      | inl q ↦ in_time k (inr (λ i r. (below_some (named names) (length names) j (sym e)).2 i (omega arith)))
      | inr q ↦ in_time k (inl (sym (behind (k - j) k (omega arith)) ∙ not-false (named rest (k - j)) (h (k - j) (omega arith))))
    ]

    pub none_late_behind : None ≡ first_below unnamed (length rest) → None ≡ first (late names) (length names)
    none_late_behind f = sym (none_first (late names) (length names) (λ k l. quiet (length rest) (below_none unnamed (length rest) (sym f)) k (omega (arith, long))))

    pub late_behind : (a : ℕ) → Some a ≡ first_below unnamed (length rest) → Some (refusal PositionalAfterNamed (j + a)) ≡ first (late names) (length names)
    late_behind a f =
        let s = below_some (named names) (length names) j (sym e) in
        let t = below_some unnamed (length rest) a (sym f) in
        let no = not-true (named rest a) t.1 in
        let later : j < j + a = elim (cases_lt 0 a) [ inl q ↦ omega arith | inr q ↦ absurd (both_ways (named names j) (sym (behind a j (omega arith)) ∙ no) s.1) ] in
        sym (first_hit (late names) (length names) (j + a) (refusal PositionalAfterNamed (j + a)) (omega (arith, t.0, long)) (quiet a t.2)
        (ap (λ b. when b (refusal PositionalAfterNamed (j + a))) (and_from (not (named names (j + a))) (any_below (named names) (j + a)) (ap not (sym (behind a (j + a) refl) ∙ no)) (any_hit (named names) (j + a) j later s.1))))
