-- What a record that may stand has, part by part. Assumes nothing.
use Rattle.std.proofs.Common.{◌≡◌, ℕ, ◌+◌, ◌<◌, ◌≤◌, Bool, true, false, not, ◌&&◌, ◌||◌, eqb, ltb, List, [], ◌∷◌, length, get_or, take, set, None, sym, ap, ⊎_elim, arith, below_more}
use Rattle.std.proofs.lemmas.List.{get_or-take}
use Rattle.std.proofs.lemmas.Bool.{cases_Bool}
use Rattle.std.proofs.lemmas.Bool.Decides.{nat_tests}
use Rattle.std.proofs.lemmas.Grind.{common_steps}
use Rattle.terms.specs.declared.Reason.TheVariants.{OutOfRange, UnknownPart, BadPart, TooDeep}
use Rattle.terms.specs.Refusals.{first}
use Rattle.terms.specs.Limits.{deepest_type}
use Rattle.terms.specs.Kinds.{kinds, has_child, is_integer}
use Rattle.places.specs.declared.record.TypeRecord.{TypeRecord}
use Rattle.places.specs.Records.{blank}
use Rattle.types.specs.Trees.{Ty, kind_of, wild, depth, grown, tree, is_dictionary}
use Rattle.types.specs.Checks.{uses_label, in_range, unknown_part, bad_part, too_deep, unfit, fit}
use Rattle.types.specs.Facts.{Sound}
use Rattle.types.proofs.Meanings.{Below, tree_set, tree-take, tree_placed, grown-below}

-- a record that may stand behind so many labels and types
pub record Fit (labels types : ℕ) (f : ℕ → Ty) (r : TypeRecord) : Type 0 where
  pub range : in_range r ≡ true
  -- its label is there
  pub label : uses_label r.kind r.flag ≡ true → r.label < labels
  -- what it is made of stands before it, and is no wildcard; a key is an integer
  pub below : Below types r
  pub calm : has_child r.kind ≡ true → wild (f r.child) ≡ false
  pub key : is_dictionary r.kind ≡ true → is_integer (kind_of (f r.second)) ≡ true
  pub flat : depth (grown f r) ≤ deepest_type
  -- its kind is one, and what the kind does not use is 0
  pub kind : r.kind < kinds
  pub child : has_child r.kind ≡ false → r.child ≡ 0
  pub second : is_dictionary r.kind ≡ false → r.second ≡ 0

-- a record whose parts are known is made of what stands before n
pub known-below : (labels n : ℕ) (r : TypeRecord) → unknown_part labels n r ≡ false → Below n r
known-below labels n r u = record { child = λ e. grind (arith, nat_tests); second = λ e. grind (arith, nat_tests) }

pub fit_parts : (labels types : ℕ) (f : ℕ → Ty) (r : TypeRecord) → fit labels types f r ≡ true → Fit labels types f r
fit_parts labels types f r h =
    let t = four (in_range r) (unknown_part labels types r) (bad_part f r) (too_deep f r) h in
    let n = ends (ltb r.kind kinds) _ _ (has_child r.kind || eqb r.child 0) (is_dictionary r.kind || eqb r.second 0) t.0 in
    let b = bads (has_child r.kind) (wild (f r.child)) (is_dictionary r.kind) (is_integer (kind_of (f r.second))) t.2 in
    record {
      range = t.0;
      label = λ e. grind (arith, nat_tests, t.1);
      below = known-below labels types r t.1;
      calm = b.0;
      key = b.1;
      flat = grind (arith, nat_tests, t.3);
      kind = grind (arith, nat_tests, n.0);
      child = zero (has_child r.kind) r.child n.1;
      second = zero (is_dictionary r.kind) r.second n.2;
    }
  where
    four : (a b c d : Bool) → (a && (not b && (not c && not d))) ≡ true → (a ≡ true) × (b ≡ false) × (c ≡ false) × (d ≡ false)
    four a b c d e = grind arith

    ends : (k x y z w : Bool) → (k && (x && ((y && z) && w))) ≡ true → (k ≡ true) × (z ≡ true) × (w ≡ true)
    ends k x y z w e = grind arith

    bads : (a x b y : Bool) → ((a && x) || (b && not y)) ≡ false → (a ≡ true → x ≡ false) × (b ≡ true → y ≡ true)
    bads a x b y e = (grind arith, grind arith)

    zero : (u : Bool) (n : ℕ) → (u || eqb n 0) ≡ true → u ≡ false → n ≡ 0
    zero u n e z = grind (arith, nat_tests)

-- no reason against it, and it is fit
pub fit_none : (labels types : ℕ) (f : ℕ → Ty) (r : TypeRecord) → unfit labels types f r ≡ None → fit labels types f r ≡ true
fit_none labels types f r h = go (in_range r) (unknown_part labels types r) (bad_part f r) (too_deep f r) h
  where
    go : (a b c d : Bool) → first ((not a, OutOfRange) ∷ ((b, UnknownPart) ∷ ((c, BadPart) ∷ ((d, TooDeep) ∷ [])))) ≡ None → (a && (not b && (not c && not d))) ≡ true
    go a b c d e = grind arith

-- each of the first n records stands over records before it
pub sound-at : (labels : ℕ) (rs : List TypeRecord) (n k : ℕ) → Sound labels rs n → k < n → Fit labels k (tree rs) (get_or rs k blank)
sound-at labels rs n k s h = fit_parts labels k (tree rs) (get_or rs k blank) (s k h)

pub tree-at : (labels : ℕ) (rs : List TypeRecord) (n k : ℕ) → Sound labels rs n → n ≤ length rs → k < n → tree rs k ≡ grown (tree rs) (get_or rs k blank)
tree-at labels rs n k s len h = tree_placed rs k (sound-at labels rs n k s h).below (omega arith)

-- what a record is made of is looked at only where it stands before n
bad_same : (n : ℕ) (f g : ℕ → Ty) (r : TypeRecord) → Below n r → ((k : ℕ) → k < n → f k ≡ g k) → bad_part f r ≡ bad_part g r
bad_same n f g r b h = go (has_child r.kind) (is_dictionary r.kind) _ _ _ _ (λ c. ap wild (h r.child (b.child c))) (λ c. ap kind_of (h r.second (b.second c)))
  where
    go : (a b x y : Bool) (z w : ℕ) → (a ≡ true → x ≡ y) → (b ≡ true → z ≡ w) → ((a && x) || (b && not (is_integer z))) ≡ ((a && y) || (b && not (is_integer w)))
    go a b x y z w p q = grind arith

-- what is wrong with a record does not depend on what stands behind n
pub unfit-same : (labels n : ℕ) (f g : ℕ → Ty) (r : TypeRecord) → ((k : ℕ) → k < n → f k ≡ g k) → unfit labels n f r ≡ unfit labels n g r
unfit-same labels n f g r h = ⊎_elim (λ u. cc) (λ u. let b = known-below labels n r u in cc (bad_same n f g r b h, grown-below f g n r b h)) (cases_Bool (unknown_part labels n r))

-- nor whether it may stand
pub fit_same : (labels n : ℕ) (f g : ℕ → Ty) (r : TypeRecord) → ((k : ℕ) → k < n → f k ≡ g k) → fit labels n f r ≡ true → fit labels n g r ≡ true
fit_same labels n f g r h t = let b = (fit_parts labels n f r t).below in cc (bad_same n f g r b h, grown-below f g n r b h)

-- with more labels a record may still stand
pub fit-wider : (labels more n : ℕ) (f : ℕ → Ty) (r : TypeRecord) → labels ≤ more → fit labels n f r ≡ true → fit more n f r ≡ true
fit-wider labels more n f r h t = go (in_range r) (unknown_part labels n r) (unknown_part more n r) (not (bad_part f r) && not (too_deep f r)) t (λ u. grind (arith, nat_tests))
  where
    go : (a b c d : Bool) → (a && (not b && d)) ≡ true → (b ≡ false → c ≡ false) → (a && (not c && d)) ≡ true
    go a b c d e h = grind arith

pub sound-wider : (labels more : ℕ) (rs : List TypeRecord) (n : ℕ) → labels ≤ more → Sound labels rs n → Sound more rs n
sound-wider labels more rs n h s k l = fit-wider labels more k (tree rs) (get_or rs k blank) h (s k l)

-- the first k records of a sound list are a sound list
pub sound-take : (labels : ℕ) (rs : List TypeRecord) (h k : ℕ) → Sound labels rs h → k ≤ h → h ≤ length rs → Sound labels (take k rs) (length (take k rs))
sound-take labels rs h k s le len n l =
    let lt : n < k = grind (arith, common_steps) in
    let t = fit_same labels n (tree rs) (tree (take k rs)) (get_or rs n blank) (λ j b. sym (tree-take rs k j (omega arith) (omega arith))) (s n (omega arith)) in
    grind (arith, common_steps, get_or-take)

-- one more record that may stand
pub sound_more : (labels : ℕ) (rs : List TypeRecord) (h n : ℕ) (r : TypeRecord) → Sound labels rs h → n ≤ h → n < length rs → fit labels n (tree rs) r ≡ true → Sound labels (set rs n r) (n + 1)
sound_more labels rs h n r s le lt t =
    below_more _ _
    (λ k l. let e = fit_same labels k (tree rs) (tree (set rs n r)) (get_or rs k blank) (λ j b. sym (tree_set rs n j r lt (omega arith))) (s k (omega arith)) in grind (arith, common_steps))
    (let e = fit_same labels n (tree rs) (tree (set rs n r)) r (λ j b. sym (tree_set rs n j r lt b)) t in grind (arith, common_steps))
