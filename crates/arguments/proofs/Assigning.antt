-- The loops that assign places and gather the arguments, and what comes of them.
use Rattle.std.proofs.Common.{◌≡◌, ℕ, ◌+◌, ◌<◌, ◌≤◌, Bool, true, false, cond, not, eqb, List, [], ◌∷◌, ◌++◌, map, length, take, get_or, set, is_some, Some, None, Ok, Err, Option, Result, unwrap_or, sym, refl, ap, ◌∙◌, arith, below_more, MatchResult}
use Rattle.std.proofs.lemmas.List.FromFn.{fill_by_all, get_or-map-range_with_len, length-map-range_with_len}
use Rattle.std.proofs.lemmas.List.{length-append, take_all, length-set, get_or-set_same, get_or-set_other}
use Rattle.std.specs.List.{range_with_len}
use Rattle.terms.specs.Refusals.{refusal}
use Rattle.terms.specs.Limits.{most_arguments}
use Rattle.terms.specs.declared.Reason.TheVariants.{ParameterGivenTwice, MissingParameter}
use Rattle.terms.specs.declared.Refusal.{Refusal}
use Rattle.arguments.specs.declared.written.Argument.{Argument}
use Rattle.arguments.specs.First.{when, first}
use Rattle.arguments.specs.Names.{Name}
use Rattle.arguments.specs.Gathering.{Assigned, giver_in, claimed, stands_at, empty_in, gathered}
use Rattle.arguments.specs.Places.{unless, blank, goes_to, place, giver, clash_of, clash, empty, standing, by_place}
use Rattle.arguments.proofs.Firsts.{Quiet, none_first, first_hit, first_same}

module _ (params : List (List ℕ)) (ns : List (Option Name)) where
  -- who is given a place, by the places that were assigned
  same_giver : (n : ℕ) (ps : List ℕ) → Assigned params ns n ps → (k : ℕ) → giver params ns n k ≡ giver_in ps n k
  same_giver n ps a k = first_same (λ i. when (goes_to (place params ns i) k) i) (λ i. when (eqb (get_or ps i 0) k) i) n (λ i l. ap (λ (o : Option ℕ). when (goes_to o k) i) (a.each i l))

  -- the argument at i clashes exactly where its place is not its to take
  claims : (i : ℕ) (ps : List ℕ) → Assigned params ns i ps → (o : Option ℕ) (r : Result ℕ Refusal) → r ≡ claimed ps i o
      → MatchResult r (λ k. (o ≡ Some k) × (clash_of params ns i o ≡ None)) (λ e. clash_of params ns i o ≡ Some e)
  claims i ps a None r e = rw e refl
  claims i ps a (Some k) r e = rw e (rw (same_giver i ps a k) (go (is_some (giver_in ps i k))))
    where
      go : (b : Bool) → MatchResult (cond b (Err (refusal ParameterGivenTwice i)) (Ok k)) (λ j. (Some k ≡ Some j) × (when b (refusal ParameterGivenTwice i) ≡ None)) (λ e. when b (refusal ParameterGivenTwice i) ≡ Some e)
      go true = refl
      go false = (refl, refl)

  module _ (i n : ℕ) (l : i < n) (none : Quiet (clash params ns) i) (ps : List ℕ) (a : Assigned params ns i ps) where
    pub not_claimed : (e : Refusal) → Err e ≡ claimed ps i (place params ns i) → Some e ≡ first (clash params ns) n
    not_claimed e h = sym (first_hit (clash params ns) n i e l none (claims i ps a (place params ns i) (Err e) h))

    pub assigned_more : n ≤ most_arguments → (k : ℕ) → Ok k ≡ claimed ps i (place params ns i) → Quiet (clash params ns) (i + 1) × Assigned params ns (i + 1) (set ps i k)
    assigned_more m k h =
        let c = claims i ps a (place params ns i) (Ok k) h in (
          below_more _ _ none c.1,
          record {
            size = length-set ps i k ∙ a.size;
            each = below_more _ _
                (λ j q. a.each j q ∙ ap Some (sym (get_or-set_other ps i j k 0 (omega arith))))
                (c.0 ∙ ap Some (sym (get_or-set_same ps i k 0 (omega (arith, a.size)))));
          },
        )

  -- what is gathered by the places assigned is what goes there
  pub same_gathered : (ps : List ℕ) (args : List Argument) → Assigned params ns (length ns) ps → length args ≡ length ns
      → gathered ps args ≡ unless (first (empty params ns) (length ns)) (Ok (by_place params ns args))
  same_gathered ps args a e =
      let same : (k : ℕ) → giver_in ps (length args) k ≡ giver params ns (length ns) k = λ k. ap (λ (n : ℕ). giver_in ps n k) e ∙ sym (same_giver (length ns) ps a k) in
      let none : first (empty_in ps (length args)) (length args) ≡ first (empty params ns) (length ns) =
      ap (first (empty_in ps (length args))) e
      ∙ first_same (empty_in ps (length args)) (empty params ns) (length ns) (λ k l. ap (λ (o : Option ℕ). when (not (is_some o)) (refusal MissingParameter k)) (same k)) in
      let f : ℕ → Argument = λ k. get_or args (unwrap_or (giver_in ps (length args) k) 0) blank in
      let all : map f (range_with_len 0 (length args)) ≡ by_place params ns args =
      fill_by_all (standing params ns args) (map f (range_with_len 0 (length args))) (length args) blank (length-map-range_with_len f 0 (length args))
      (λ k l. get_or-map-range_with_len f 0 (length args) k k blank l (omega arith) ∙ ap (λ (o : Option ℕ). get_or args (unwrap_or o 0) blank) (same k)) in
      ap (λ (o : Option Refusal). unless o (Ok (map f (range_with_len 0 (length args))))) none
      ∙ ap (λ (xs : List Argument). unless (first (empty params ns) (length ns)) (Ok xs)) all

-- gathering
module _ (ps : List ℕ) (args : List Argument) where
  -- who has place k
  abbrev giver_at : ℕ → Option ℕ
  giver_at k = giver_in ps (length args) k

  abbrev held : ℕ → Argument
  held k = get_or args (unwrap_or (giver_at k) 0) blank

  -- at each place below k stands what belongs there
  abbrev pub AllStand : List Argument → ℕ → Type 0
  AllStand items k = (j : ℕ) → j < k → Ok (get_or items j blank) ≡ stands_at args j (giver_at j)

  found : (k : ℕ) (o : Option ℕ) (x : Argument) → Ok x ≡ stands_at args k o → (when (not (is_some o)) (refusal MissingParameter k) ≡ None) × (x ≡ get_or args (unwrap_or o 0) blank)
  found k None x e = cc
  found k (Some i) x e = (refl, cc)

  lost : (k : ℕ) (o : Option ℕ) (e : Refusal) → Err e ≡ stands_at args k o → when (not (is_some o)) (refusal MissingParameter k) ≡ Some e
  lost k None e h = cc
  lost k (Some i) e h = cc

  none_empty : (items : List Argument) (k : ℕ) → AllStand items k → Quiet (empty_in ps (length args)) k
  none_empty items k h j l = (found j (giver_at j) (get_or items j blank) (h j l)).0

  -- there is room for the next argument
  pub kept : (items : List Argument) (x : Argument) (n : ℕ) → length args ≤ n → length items < length args → take n (items ++ x ∷ []) ≡ items ++ x ∷ []
  kept items x n few l = take_all n (items ++ x ∷ []) (omega (arith, length-append items (x ∷ [])))

  pub missing : (items : List Argument) (k : ℕ) (e : Refusal) → k < length args → AllStand items k → Err e ≡ stands_at args k (giver_at k) → Err e ≡ gathered ps args
  missing items k e l h q =
      sym (ap (λ (o : Option Refusal). unless o (Ok (map held (range_with_len 0 (length args)))))
      (first_hit (empty_in ps (length args)) (length args) k e l (none_empty items k h) (lost k (giver_at k) e q)))

  pub gathered_all : (items : List Argument) → length items ≡ length args → AllStand items (length args) → Ok items ≡ gathered ps args
  gathered_all items e h =
      ap Ok (fill_by_all held items (length args) blank e (λ j l. (found j (giver_at j) (get_or items j blank) (h j l)).1))
      ∙ sym (ap (λ (o : Option Refusal). unless o (Ok (map held (range_with_len 0 (length args))))) (none_first (empty_in ps (length args)) (length args) (none_empty items (length args) h)))
