-- The definition says what the subject says: a refusal is true, and where no refusal is true every argument stands where it belongs.
use Rattle.std.proofs.Common.{◌≡◌, ℕ, ◌+◌, ◌<◌, ◌≤◌, Bool, true, false, cond, not, ◌&&◌, ◌||◌, eqb, ltb, List, length, get_or, is_some, Some, None, Ok, Option, unwrap_or, sym, refl, ap, ◌∙◌, subst, inl, inr, arith}
use Rattle.std.proofs.lemmas.List.FromFn.{length-map-range_with_len, get_or-map-range_with_len}
use Rattle.std.proofs.lemmas.Bool.{and_parts, or_cases, not-true, not-false, both_ways, ltb-true, ltb-false, lt-ltb, eqb-true, eqb-false, eq-eqb, cases_lt, cases_order, cond_both, and_from, not_from_false}
use Rattle.terms.specs.Refusals.{refusal}
use Rattle.terms.specs.Limits.{most_arguments}
use Rattle.terms.specs.declared.Reason.{Reason}
use Rattle.terms.specs.declared.Reason.TheVariants.{MalformedCall, PositionalAfterNamed, TooManyPositional, UnknownParameter, ParameterGivenTwice, MissingParameter}
use Rattle.terms.specs.declared.Refusal.{Refusal}
use Rattle.arguments.specs.declared.written.Argument.{Argument}
use Rattle.arguments.specs.declared.written.ArgumentName.{ArgumentName}
use Rattle.arguments.specs.First.{first, any_below, count_below}
use Rattle.arguments.specs.Names.{Name}
use Rattle.arguments.specs.Places.{Outcome, unless, blank, named, outside, malformed, late, crowded, goes_to, place, giver, clash_of, clash, empty, standing, by_place, with_names, settled, resolves}
use Rattle.arguments.specs.Standing.{Belongs, Place, Stands, Outside, Says, rank, Leads, FirstTrue, Exactly}
use Rattle.arguments.specs.Standing.Says.{too_many, counts_differ, name_outside, positional_late, positional_many, unknown, twice, missing}
use Rattle.arguments.specs.View.{spell}
use Rattle.arguments.proofs.Formed.{well_formed}
use Rattle.arguments.proofs.Firsts.{Quiet, first_some, first-none, below_some, when-some, when-none, some-there, none-there, any_there, any_none, any_hit}
use Rattle.arguments.proofs.Fitting.{goes-belongs, belongs_goes}
use Rattle.arguments.proofs.Spelling.{as_many, named_spelled, count_spelled}
use Rattle.arguments.proofs.Squeeze.{Apart, onto}

pub goes_to-is : (o : Option ℕ) (k : ℕ) → goes_to o k ≡ true → o ≡ Some k
goes_to-is None k e = cc
goes_to-is (Some p) k e = ap Some (eqb-true p k e)

is_goes_to : (o : Option ℕ) (k : ℕ) → o ≡ Some k → goes_to o k ≡ true
is_goes_to o k e = rw e (eq-eqb k k refl)

outside-is : (text : List ℕ) (o : Option ArgumentName) → outside text o ≡ true → Outside text o
outside-is text None e = cc
outside-is text (Some n) e = ltb-true (length text) (n.start + n.len) e

is_outside : (text : List ℕ) (o : Option ArgumentName) → Outside text o → outside text o ≡ true
is_outside text None h = absurd h
is_outside text (Some n) h = lt-ltb (length text) (n.start + n.len) h

-- an argument without a name belongs where it is written, and nowhere else
at_none : (params : List (List ℕ)) (i k : ℕ) (o : Option Name) → o ≡ None → Belongs params i o k → k ≡ i
at_none params i k None e h = h
at_none params i k (Some n) e h = cc

none-at : (params : List (List ℕ)) (i : ℕ) (o : Option Name) → o ≡ None → Belongs params i o i
none-at params i o e = subst (λ (x : Option Name). Belongs params i x i) (sym e) refl

module _ (params : List (List ℕ)) (ns : List (Option Name)) where
  pub is_place : (i k : ℕ) → Place params ns i k → place params ns i ≡ Some k
  is_place i k h = belongs_goes params i k (get_or ns i None) h.1

  pub place_is : (i k : ℕ) → i < length ns → place params ns i ≡ Some k → Place params ns i k
  place_is i k l e = (l, goes-belongs params i k (get_or ns i None) e)

  pub giver_some : (n k i : ℕ) → giver params ns n k ≡ Some i → (i < n) × (place params ns i ≡ Some k)
  giver_some n k i e = let s = below_some (λ j. goes_to (place params ns j) k) n i e in (s.0, goes_to-is (place params ns i) k s.1)

  giver_hit : (n k i : ℕ) → i < n → place params ns i ≡ Some k → is_some (giver params ns n k) ≡ true
  giver_hit n k i l e = any_hit (λ j. goes_to (place params ns j) k) n i l (is_goes_to (place params ns i) k e)

  clash_none : (i : ℕ) (o : Option ℕ) → clash_of params ns i o ≡ None → (k : ℕ) × (o ≡ Some k) × (is_some (giver params ns i k) ≡ false)
  clash_none i None e = cc
  clash_none i (Some k) e = (k, refl, when-none (is_some (giver params ns i k)) (refusal ParameterGivenTwice i) e)

  -- no two arguments go to one place where none clashes
  apart : (i j k : ℕ) → i < j → Place params ns i k → Place params ns j k → clash params ns j ≡ None → ⊥
  apart i j k l p q e =
      let c = clash_none j (place params ns j) e in
      let same : c.0 ≡ k = (let a = sym c.1 ∙ is_place j k q in cc) in
      both_ways (is_some (giver params ns j c.0)) c.2 (giver_hit j c.0 i l (is_place i k p ∙ ap Some (sym same)))

  -- who is given place k, where it is not empty
  filled : (k : ℕ) → empty params ns k ≡ None → (i : ℕ) × (giver params ns (length ns) k ≡ Some i)
  filled k e =
      let w = when-none (not (is_some (giver params ns (length ns) k))) (refusal MissingParameter k) e in
      some-there (giver params ns (length ns) k) (not-false (is_some (giver params ns (length ns) k)) w)

  -- the argument that is given place k
  abbrev holder : ℕ → ℕ
  holder k = unwrap_or (giver params ns (length ns) k) 0

  module _ (e : Quiet (empty params ns) (length ns)) where
    held : (k : ℕ) → k < length ns → (holder k < length ns) × (place params ns (holder k) ≡ Some k)
    held k l =
        let g = filled k (e k l) in
        subst (λ (o : Option ℕ). (unwrap_or o 0 < length ns) × (place params ns (unwrap_or o 0) ≡ Some k)) (sym g.1) (giver_some (length ns) k g.0 g.1)

    one_place : Apart (length ns) holder
    one_place j k p q h = let a = (held j p).1 in let b = (held k q).1 in let d = ap (place params ns) h in cc

    holds : (i : ℕ) → i < length ns → (k : ℕ) × (k < length ns) × (holder k ≡ i)
    holds = onto (length ns) holder (λ k m. (held k m).0) one_place

    pub placed : (args : List Argument) → length args ≡ length ns → Quiet (clash params ns) (length ns) → Stands params ns args (by_place params ns args)
    placed args n c =
        let len : length (by_place params ns args) ≡ length args = length-map-range_with_len (standing params ns args) 0 (length args) in
        let at : (k : ℕ) → k < length args → get_or (by_place params ns args) k blank ≡ get_or args (holder k) blank =
        λ k l. get_or-map-range_with_len (standing params ns args) 0 (length args) k k blank l (omega arith) in
        record {
          count = len;
          each = λ i l. (
              let o = holds i (omega arith) in
              (o.0, omega (arith, o.1), place_is i o.0 (omega arith) (subst (λ (j : ℕ). place params ns j ≡ Some o.0) o.2 (held o.0 o.1).1), at o.0 (omega (arith, o.1)) ∙ ap (λ (j : ℕ). get_or args j blank) o.2)
              );
          once = λ i j k p q. elim (cases_order i j) [
            | inl h ↦ h
            | inr (inl h) ↦ absurd (apart i j k h p q (c j q.0))
            | inr (inr h) ↦ absurd (apart j i k h q p (c i p.0))
          ];
          other = λ k l. (let w = held k (omega (arith, len)) in (holder k, omega (arith, w.0), place_is (holder k) k w.0 w.1, at k (omega (arith, len))));
        }

  -- with no name everything stands where it is written
  pub as_written : (args : List Argument) → length args ≡ length ns → ((i : ℕ) → i < length ns → named ns i ≡ false) → Stands params ns args args
  as_written args n h =
      let none : (i : ℕ) → i < length ns → get_or ns i None ≡ None = λ i l. none-there (get_or ns i None) (h i l) in
      let here : (i : ℕ) → i < length ns → Place params ns i i = λ i l. (l, none-at params i (get_or ns i None) (none i l)) in
      record {
        count = refl;
        each = λ i l. (i, l, here i (omega arith), refl);
        once = λ i j k p q. (let a = at_none params i k (get_or ns i None) (none i p.0) p.1 in let b = at_none params j k (get_or ns j None) (none j q.0) q.1 in omega arith);
        other = λ k l. (k, l, here k (omega arith), refl);
      }

-- the refusals
module _ (params : List (List ℕ)) (text : List ℕ) (args : List Argument) (names : List (Option ArgumentName)) where
  abbrev ns : List (Option Name)
  ns = spell text names

  -- the names as they are spelled, and as they are handed in
  below : (i : ℕ) → i < length ns → i < length names
  below i l = omega (arith, as_many text names)

  spelled_below : (i : ℕ) → i < length names → i < length ns
  spelled_below i l = omega (arith, as_many text names)

  is_named : (i : ℕ) (b : Bool) → named ns i ≡ b → named names i ≡ b
  is_named i b e = sym (named_spelled text names i) ∙ e

  is_spelled : (i : ℕ) (b : Bool) → named names i ≡ b → named ns i ≡ b
  is_spelled i b e = named_spelled text names i ∙ e

  same_count : count_below (λ i. not (named ns i)) (length ns) ≡ count_below (λ i. not (named names i)) (length names)
  same_count = ap (count_below (λ i. not (named ns i))) (as_many text names) ∙ count_spelled text names (length names)

  -- no refusal is true
  abbrev NoneTrue : Type 0
  NoneTrue = (r : Reason) (p : ℕ) → Says params text args names r p → ⊥

  -- the refusal is true, and leads every other that is
  abbrev Given : Refusal → Type 0
  Given = FirstTrue params text args names

  abbrev Led : Reason → ℕ → Type 0
  Led r p = (q : Reason) (k : ℕ) → Says params text args names q k → Leads r p q k

  malformed_leads : Led MalformedCall 0
  malformed_leads q k (too_many h) = inr (refl, omega arith)
  malformed_leads q k (counts_differ h) = inr (refl, omega arith)
  malformed_leads q k (name_outside i b h) = inr (refl, omega arith)
  malformed_leads q k (positional_late p j b u s h) = inl (omega arith)
  malformed_leads q k (positional_many j b h g) = inl (omega arith)
  malformed_leads q k (unknown p b h) = inl (omega arith)
  malformed_leads q k (twice p j m b g h) = inl (omega arith)
  malformed_leads q k (missing p b h) = inl (omega arith)

  malformed_given : (r : Refusal) → malformed text args names ≡ Some r → Given r
  malformed_given r e =
      let many = ltb most_arguments (length args) in
      let differ = not (eqb (length args) (length names)) in
      let out = any_below (λ i. outside text (get_or names i None)) (length names) in
      let w = when-some (many || (differ || out)) (refusal MalformedCall 0) r e in
      let so : Says params text args names MalformedCall 0 = elim (or_cases many (differ || out) w.0) [
        | inl h ↦ too_many (ltb-true most_arguments (length args) h)
        | inr h ↦ elim (or_cases differ out h) [
          | inl g ↦ counts_differ (eqb-false (length args) (length names) (not-true (eqb (length args) (length names)) g))
          | inr g ↦ let s = any_there (λ i. outside text (get_or names i None)) (length names) g in name_outside s.0 s.1 (outside-is text (get_or names s.0 None) s.2)
        ]
      ] in
      subst Given w.1 (record { so = so; leads = malformed_leads })

  module _ (e : malformed text args names ≡ None) where
    few : length args ≤ most_arguments
    few = (well_formed text args names e).0

    pair_up : length args ≡ length names
    pair_up = (well_formed text args names e).1

    not_outside : (i : ℕ) → i < length names → Outside text (get_or names i None) → ⊥
    not_outside i l h = both_ways (outside text (get_or names i None)) ((well_formed text args names e).2 i l) (is_outside text (get_or names i None) h)

    module _ (a : any_below (named ns) (length ns) ≡ false) where
      unnamed : (i : ℕ) → i < length names → get_or ns i None ≡ None
      unnamed i l = none-there (get_or ns i None) (any_none (named ns) (length ns) a i (spelled_below i l))

      not_named : (i : ℕ) → i < length names → named names i ≡ true → ⊥
      not_named i l h = both_ways (named ns i) (any_none (named ns) (length ns) a i (spelled_below i l)) (is_spelled i true h)

      here : (i : ℕ) → i < length names → Place params ns i i
      here i l = (spelled_below i l, none-at params i (get_or ns i None) (unnamed i l))

      none_named : NoneTrue
      none_named r q (too_many h) = omega (arith, few)
      none_named r q (counts_differ h) = h pair_up
      none_named r q (name_outside i l h) = not_outside i l h
      none_named r q (positional_late p j l u m h) = not_named j (omega arith) h
      none_named r q (positional_many j l h m) = not_named j l h
      none_named r q (unknown p l h) = h p (here p l)
      none_named r q (twice p j k l g h) =
          let b = at_none params j k (get_or ns j None) (unnamed j (below j g.0)) g.1 in
          let d = at_none params p k (get_or ns p None) (unnamed p (below p h.0)) h.1 in
          omega arith
      none_named r q (missing p l h) = h p (here p l)

    -- what the definition tests at k for a refusal of rank m
    abbrev test : ℕ → ℕ → Option Refusal
    test m k = cond (eqb m 23) (late ns k) (cond (eqb m 24) (crowded params ns) (cond (eqb m 25) (clash params ns k) (cond (eqb m 27) (empty params ns k) None)))

    -- a test comes to nothing where the one of its rank does
    silent : (m k : ℕ) → (m ≡ 23 → late ns k ≡ None) → (m ≡ 24 → crowded params ns ≡ None) → (m ≡ 25 → clash params ns k ≡ None) → (m ≡ 27 → empty params ns k ≡ None) → test m k ≡ None
    silent m k a b c d = at 23 (late ns k) a (at 24 (crowded params ns) b (at 25 (clash params ns k) c (at 27 (empty params ns k) d refl)))
      where
        at : (n : ℕ) (o : Option Refusal) → (m ≡ n → o ≡ None) → {p : Option Refusal} → p ≡ None → cond (eqb m n) o p ≡ None
        at n o f {p} g = cond_both (eqb m n) o p (λ x. x ≡ None) (λ h. f (eqb-true m n h)) (λ h. g)

    -- a refusal that is true is one that a test comes to
    fires : (r : Reason) (p : ℕ) → Says params text args names r p → (p < length ns) × (test (rank r) p ≡ None → ⊥)
    fires r q (too_many h) = absurd (omega (arith, few))
    fires r q (counts_differ h) = absurd (h pair_up)
    fires r q (name_outside i l h) = absurd (not_outside i l h)
    fires r q (positional_late p j l u s h) = (
      spelled_below p l,
      λ z.
          both_ways (not (named ns p) && any_below (named ns) p) (when-none (not (named ns p) && any_below (named ns) p) (refusal PositionalAfterNamed p) z)
          (and_from (not (named ns p)) (any_below (named ns) p) (not_from_false (named ns p) (is_spelled p false u)) (any_hit (named ns) p j s (is_spelled j true h))),
    )
    fires r q (positional_many j l h g) = (
      let b = spelled_below j l in omega arith,
      λ z.
          let count = count_below (λ i. not (named ns i)) (length ns) in
          let a = ltb-false (length params) count (when-none (ltb (length params) count) (refusal TooManyPositional 0) z) in
          omega (arith, same_count),
    )
    fires r q (unknown p l h) = (spelled_below p l, λ z. let a = clash_none params ns p (place params ns p) z in h a.0 (place_is params ns p a.0 (spelled_below p l) a.1))
    fires r q (twice p j k l g h) = (h.0, apart params ns j p k l g h)
    fires r q (missing p l h) = (spelled_below p l, λ z. let g = filled params ns p z in let s = giver_some params ns (length ns) p g.0 g.1 in h g.0 (place_is params ns g.0 p s.0 s.1))

    -- a refusal leads where no test before its own comes to anything
    leading : (r : Reason) (i : ℕ) → ((m k : ℕ) → k < length ns → m ≤ rank r → (m ≡ rank r → k < i) → test m k ≡ None) → Led r i
    leading r i h q k s =
        let f = fires q k s in
        elim (cases_order (rank q) (rank r)) [
          | inl d ↦ inr (sym d, elim (cases_lt k i) [ inl l ↦ absurd (f.1 (h (rank q) k f.0 (omega arith) (λ x. l))) | inr l ↦ l ])
          | inr (inl d) ↦ absurd (f.1 (h (rank q) k f.0 (omega arith) (λ x. absurd (omega arith))))
          | inr (inr d) ↦ inl d
        ]

    late_given : (r : Refusal) → first (late ns) (length ns) ≡ Some r → Given r
    late_given r l =
        let s = first_some (late ns) (length ns) r l in
        let i = s.0 in
        let w = when-some (not (named ns i) && any_below (named ns) i) (refusal PositionalAfterNamed i) r s.2 in
        let p = and_parts (not (named ns i)) (any_below (named ns) i) w.0 in
        let j = any_there (named ns) i p.1 in
        subst Given w.1 (record {
          so = positional_late i j.0 (below i s.1) (is_named i false (not-true (named ns i) p.0)) j.1 (is_named j.0 true j.2);
          leads = leading PositionalAfterNamed i (λ m k b u c. silent m k (λ d. s.3 k (c d)) (λ d. absurd (omega arith)) (λ d. absurd (omega arith)) (λ d. absurd (omega arith)));
        })

    module _ (l : Quiet (late ns) (length ns)) where
      crowded_given : any_below (named ns) (length ns) ≡ true → (r : Refusal) → crowded params ns ≡ Some r → Given r
      crowded_given a r h =
          let count = count_below (λ i. not (named ns i)) (length ns) in
          let w = when-some (ltb (length params) count) (refusal TooManyPositional 0) r h in
          let j = any_there (named ns) (length ns) a in
          subst Given w.1 (record {
            so = positional_many j.0 (below j.0 j.1) (is_named j.0 true j.2) (rw same_count at (ltb-true (length params) count w.0));
            leads = leading TooManyPositional 0 (λ m k b u c. silent m k (λ d. l k b) (λ d. absurd (let z = c d in omega arith)) (λ d. absurd (omega arith)) (λ d. absurd (omega arith)));
          })

      module _ (w : crowded params ns ≡ None) where
        clash_leads : (r : Reason) → rank r ≡ rank UnknownParameter → (i : ℕ) → Quiet (clash params ns) i → Led r i
        clash_leads r x i c = leading r i (λ m k b u f. silent m k (λ d. l k b) (λ d. w) (λ d. c k (f (d ∙ sym x))) (λ d. absurd (omega arith)))

        clash_given : (r : Refusal) → first (clash params ns) (length ns) ≡ Some r → Given r
        clash_given r h = let s = first_some (clash params ns) (length ns) r h in go s.0 s.1 s.3 (place params ns s.0) refl s.2
          where
            go : (i : ℕ) → i < length ns → Quiet (clash params ns) i → (o : Option ℕ) → place params ns i ≡ o → clash_of params ns i o ≡ Some r → Given r
            go i b c None p q =
                let d : refusal UnknownParameter i ≡ r = cc in
                subst Given d (record {
                  so = unknown i (below i b) (λ k g. let a = is_place params ns i k g in cc);
                  leads = clash_leads UnknownParameter refl i c;
                })
            go i b c (Some k) p q =
                let t = when-some (is_some (giver params ns i k)) (refusal ParameterGivenTwice i) r q in
                let g = some-there (giver params ns i k) t.0 in
                let j = giver_some params ns i k g.0 g.1 in
                subst Given t.1 (record {
                  so = twice i g.0 k j.0 (place_is params ns g.0 k (omega (arith, j.0)) j.1) (place_is params ns i k b p);
                  leads = clash_leads ParameterGivenTwice refl i c;
                })

        module _ (c : Quiet (clash params ns) (length ns)) where
          empty_given : (r : Refusal) → first (empty params ns) (length ns) ≡ Some r → Given r
          empty_given r h =
              let s = first_some (empty params ns) (length ns) r h in
              let k = s.0 in
              let t = when-some (not (is_some (giver params ns (length ns) k))) (refusal MissingParameter k) r s.2 in
              subst Given t.1 (record {
                so = missing k (below k s.1) (λ i g. both_ways (is_some (giver params ns (length ns) k)) (not-true (is_some (giver params ns (length ns) k)) t.0) (giver_hit params ns (length ns) k i g.0 (is_place params ns i k g)));
                leads = leading MissingParameter k (λ m j b u f. silent m j (λ d. l j b) (λ d. w) (λ d. c j b) (λ d. s.3 j (f d)));
              })

          none_refused : Quiet (empty params ns) (length ns) → NoneTrue
          none_refused q r p s = let f = fires r p s in f.1 (silent (rank r) p (λ d. l p f.0) (λ d. w) (λ d. c p f.0) (λ d. q p f.0))

  abbrev Exact : Outcome → Type 0
  Exact = Exactly params text args names

  -- a refusal where there is one, else what follows
  exactly_unless : (o : Option Refusal) (q : Outcome) → ((r : Refusal) → o ≡ Some r → Given r) → (o ≡ None → Exact q) → Exact (unless o q)
  exactly_unless None q f g = g refl
  exactly_unless (Some r) q f g = f r refl

  exactly_named : malformed text args names ≡ None → (b : Bool) → any_below (named ns) (length ns) ≡ b → Exact (cond b (unless (first (late ns) (length ns)) (with_names params ns args)) (Ok args))
  exactly_named e false a = (as_written params ns args (pair_up e ∙ sym (as_many text names)) (any_none (named ns) (length ns) a), none_named e a)
  exactly_named e true a =
      exactly_unless (first (late ns) (length ns)) (with_names params ns args) (late_given e) (λ h.
      let l = first-none (late ns) (length ns) h in
      exactly_unless (crowded params ns) _ (crowded_given e l a) (λ w.
      exactly_unless (first (clash params ns) (length ns)) _ (clash_given e l w) (λ h.
      let c = first-none (clash params ns) (length ns) h in
      exactly_unless (first (empty params ns) (length ns)) _ (empty_given e l w c) (λ h.
      let m = first-none (empty params ns) (length ns) h in
      (placed params ns m args (pair_up e ∙ sym (as_many text names)) c, none_refused e l w c m)))))

  pub exact : Exactly params text args names (resolves params text args names)
  exact = exactly_unless (malformed text args names) (settled params ns args) malformed_given (λ e. exactly_named e (any_below (named ns) (length ns)) refl)
