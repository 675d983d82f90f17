-- The order of the named arguments among themselves makes no difference: shown of the subject's words, so of the definition.
use Rattle.std.proofs.Common.{◌≡◌, ℕ, ◌<◌, not, List, length, get_or, is_some, Some, None, Ok, Err, Option, sym, refl, ap, ◌∙◌, subst, inl, inr, arith}
use Rattle.std.proofs.lemmas.List.{ext_get_or}
use Rattle.std.proofs.lemmas.Bool.{cases_order}
use Rattle.std.specs.Option.{option_map}
use Rattle.terms.specs.declared.Reason.{Reason}
use Rattle.terms.specs.declared.Reason.TheVariants.{MalformedCall, PositionalAfterNamed, TooManyPositional, UnknownParameter, ParameterGivenTwice, MissingParameter}
use Rattle.arguments.specs.declared.written.Argument.{Argument}
use Rattle.arguments.specs.declared.written.ArgumentName.{ArgumentName}
use Rattle.arguments.specs.First.{count_below}
use Rattle.arguments.specs.Names.{Name}
use Rattle.arguments.specs.Orders.{Reordered, Alike}
use Rattle.arguments.specs.Places.{Outcome, blank, named, resolves}
use Rattle.arguments.specs.Standing.{Belongs, Place, Stands, Outside, Says, Exactly}
use Rattle.arguments.specs.Standing.Says.{too_many, counts_differ, name_outside, positional_late, positional_many, unknown, twice, missing}
use Rattle.arguments.specs.View.{spell, spelled}
use Rattle.arguments.proofs.Exact.{exact}
use Rattle.arguments.proofs.Firsts.{count_same}
use Rattle.arguments.proofs.Spelling.{spell-at, as_many}

-- what was moved can be moved back
abbrev back-again : {args args' : List Argument} {names names' : List (Option ArgumentName)} → Reordered args names args' names' → Reordered args' names' args names
back-again {args} {args'} {names} {names'} r =
    let n = r.as_many_names in
    let forth : (i : ℕ) → i < length names' → r.to (r.from i) ≡ i = λ i l. r.forth i (omega arith) in
    let name : (i : ℕ) → i < length names' → get_or names (r.from i) None ≡ get_or names' i None =
    λ i l. sym (r.name (r.from i) (r.from_within i (omega arith))) ∙ ap (λ (j : ℕ). get_or names' j None) (forth i l) in
    record {
      as_many = sym r.as_many;
      as_many_names = sym n;
      to = r.from;
      from = r.to;
      to_within = λ i l. (let h = r.from_within i (omega arith) in omega arith);
      from_within = λ i l. (let h = r.to_within i (omega arith) in omega arith);
      back = forth;
      forth = λ i l. r.back i (omega arith);
      still = λ i l e. sym (r.still (r.from i) (r.from_within i (omega arith)) (name i l ∙ e)) ∙ forth i l;
      name = name;
      argument = λ i l. sym (r.argument (r.from i) (r.from_within i (omega arith))) ∙ ap (λ (j : ℕ). get_or args' j blank) (forth i l);
    }

unspelled : (text : List ℕ) (o : Option ArgumentName) → option_map (spelled text) o ≡ None → o ≡ None
unspelled text None e = refl
unspelled text (Some n) e = cc

-- where a named argument is written makes no difference to where it belongs
belongs_moved : (params : List (List ℕ)) (i j k : ℕ) (o : Option Name) → (o ≡ None → j ≡ i) → Belongs params i o k → Belongs params j o k
belongs_moved params i j k None e h = h ∙ sym (e refl)
belongs_moved params i j k (Some n) e h = h

module _ (params : List (List ℕ)) (text : List ℕ) {args args' : List Argument} {names names' : List (Option ArgumentName)} (r : Reordered args names args' names') where
  long : length (spell text names) ≡ length names
  long = as_many text names

  long' : length (spell text names') ≡ length names
  long' = as_many text names' ∙ r.as_many_names

  moves : (i k : ℕ) → Place params (spell text names) i k → Place params (spell text names') (r.to i) k
  moves i k h =
      let l : i < length names = omega (arith, h.0, long) in
      let same : get_or (spell text names) i None ≡ get_or (spell text names') (r.to i) None =
      spell-at text names i ∙ ap (option_map (spelled text)) (sym (r.name i l)) ∙ sym (spell-at text names' (r.to i)) in (
        (let w = r.to_within i l in omega (arith, long')),
        subst (λ (o : Option Name). Belongs params (r.to i) o k) same
            (belongs_moved params i (r.to i) k (get_or (spell text names) i None) (λ e. r.still i l (unspelled text (get_or names i None) (sym (spell-at text names i) ∙ e))) h.1),
      )

  -- the same arguments carry a name
  still_named : (i : ℕ) → i < length names → (o o' : Option ArgumentName) → get_or names i None ≡ o → get_or names' i None ≡ o' → is_some o' ≡ is_some o
  still_named i l None None e e' = refl
  still_named i l (Some x) (Some y) e e' = refl
  still_named i l None (Some y) e e' =
      absurd (let a : get_or names' i None ≡ None = ap (λ (j : ℕ). get_or names' j None) (sym (r.still i l e)) ∙ r.name i l ∙ e in cc)
  still_named i l (Some x) None e e' =
      let b = back-again r in
      let l' : i < length names' = omega (arith, r.as_many_names) in
      absurd (let a : get_or names i None ≡ None = ap (λ (j : ℕ). get_or names j None) (sym (b.still i l' e')) ∙ b.name i l' ∙ e' in cc)

  same_named : (i : ℕ) → i < length names → named names' i ≡ named names i
  same_named i l = still_named i l (get_or names i None) (get_or names' i None) refl refl

  same_count : count_below (λ i. not (named names' i)) (length names') ≡ count_below (λ i. not (named names i)) (length names)
  same_count = rw r.as_many_names (count_same (λ i. not (named names' i)) (λ i. not (named names i)) (length names) (λ k l. ap not (same_named k l)))

  abbrev some_says : Type 0
  some_says = (q : Reason) × (p : ℕ) × Says params text args names q p

module _ (params : List (List ℕ)) (text : List ℕ) {args args' : List Argument} {names names' : List (Option ArgumentName)} (r : Reordered args names args' names') where
  back_place : (i k : ℕ) → Place params (spell text names') i k → Place params (spell text names) (r.from i) k
  back_place i k h = moves params text (back-again r) i k h

  long_ns : length (spell text names) ≡ length names
  long_ns = long params text r

  long_ns' : length (spell text names') ≡ length names
  long_ns' = long' params text r

  -- two of the arguments as they were belong at one place
  both_at : (i j k : ℕ) → (i ≡ j → ⊥) → Place params (spell text names) i k → Place params (spell text names) j k → some_says params text r
  both_at i j k d p q = elim (cases_order i j) [
    | inl e ↦ absurd (d e)
    | inr (inl l) ↦ (ParameterGivenTwice, j, twice j i k l p q)
    | inr (inr l) ↦ (ParameterGivenTwice, i, twice i j k l q p)
  ]

  -- a refusal that is true of the call in its other order, so some refusal is true of the call
  says_moved : (q : Reason) (p : ℕ) → Says params text args' names' q p → some_says params text r
  says_moved q p (too_many h) = (MalformedCall, 0, too_many (omega (arith, r.as_many)))
  says_moved q p (counts_differ h) = (MalformedCall, 0, counts_differ (λ e. h (r.as_many ∙ e ∙ sym r.as_many_names)))
  says_moved q p (name_outside i l h) =
      let b = back-again r in
      (MalformedCall, 0, name_outside (r.from i) (r.from_within i (omega (arith, r.as_many_names))) (subst (Outside text) (sym (b.name i l)) h))
  says_moved q p (positional_late k j l u m h) =
      let b : k < length names = omega (arith, r.as_many_names) in
      (PositionalAfterNamed, k, positional_late k j b (sym (same_named params text r k b) ∙ u) m (sym (same_named params text r j (omega arith)) ∙ h))
  says_moved q p (positional_many j l h m) =
      let b : j < length names = omega (arith, r.as_many_names) in
      (TooManyPositional, 0, positional_many j b (sym (same_named params text r j b) ∙ h) (rw (same_count params text r) at m))
  says_moved q p (unknown k l h) =
      let b : k < length names = omega (arith, r.as_many_names) in
      (UnknownParameter, r.from k, unknown (r.from k) (r.from_within k b) (λ j g. h j (subst (λ (i : ℕ). Place params (spell text names') i j) (r.forth k b) (moves params text r (r.from k) j g))))
  says_moved q p (twice i j k l g h) =
      let lj : j < length names = omega (arith, g.0, long_ns') in
      let li : i < length names = omega (arith, h.0, long_ns') in
      both_at (r.from j) (r.from i) k (λ e. let a = r.forth j lj in let b = r.forth i li in let d = ap r.to e in omega arith) (back_place j k g) (back_place i k h)
  says_moved q p (missing k l h) = (MissingParameter, k, missing k (omega (arith, r.as_many_names)) (λ i g. h (r.to i) (moves params text r i k g)))

  pub same_answer : (xs ys : List Argument) → Stands params (spell text names) args xs → Stands params (spell text names') args' ys → xs ≡ ys
  same_answer xs ys s t = ext_get_or blank xs ys (s.count ∙ sym r.as_many ∙ sym t.count)
      (λ k l.
      let a = s.other k l in
      let b = t.other k (omega (arith, s.count, t.count, r.as_many)) in
      let i = a.0 in
      let here : i < length names = omega (arith, a.2.0, long_ns) in
      let there : r.to i ≡ b.0 = t.once (r.to i) b.0 k (moves params text r i k a.2) b.2 in
      a.3 ∙ sym (r.argument i here) ∙ ap (λ (j : ℕ). get_or args' j blank) there ∙ sym b.3)

module _ (params : List (List ℕ)) (text : List ℕ) {args args' : List Argument} {names names' : List (Option ArgumentName)} (r : Reordered args names args' names') where
  both : (o o' : Outcome) → Exactly params text args names o → Exactly params text args' names' o' → Alike o o'
  both (Ok xs) (Ok ys) h g = same_answer params text r xs ys h.0 g.0
  both (Ok xs) (Err e) h g = let s = says_moved params text r e.reason e.place g.so in h.1 s.0 s.1 s.2
  both (Err e) (Ok ys) h g = let s = says_moved params text (back-again r) e.reason e.place h.so in g.1 s.0 s.1 s.2
  both (Err e) (Err f) h g = tt

  pub alike : Alike (resolves params text args names) (resolves params text args' names')
  alike = both (resolves params text args names) (resolves params text args' names') (exact params text args names) (exact params text args' names')
