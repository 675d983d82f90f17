-- Numbers tell types: equal trees have one number. What stands is calm and not too deep. Assumes nothing.
use Rattle.std.proofs.Common.{◌≡◌, ℕ, ◌<◌, ◌≤◌, true, false, eqb, ℤ, pos, negsuc, List, length, get_or, refl, subst, ⊎_elim, arith}
use Rattle.std.proofs.lemmas.Option.{gets}
use Rattle.std.proofs.lemmas.Bool.{cases_Bool}
use Rattle.std.proofs.lemmas.Bool.Decides.{nat_tests}
use Rattle.std.proofs.lemmas.Grind.{common_steps}
use Rattle.terms.specs.Limits.{deepest_type}
use Rattle.terms.specs.Kinds.{has_child, is_integer}
use Rattle.places.specs.declared.record.TypeRecord.{TypeRecord}
use Rattle.places.specs.Records.{blank}
use Rattle.types.specs.Trees.{Head, Ty, none, node, kind_of, second_of, head_of, same_int, same_head, same, wild, depth, Calm, grown, tree, is_dictionary}
use Rattle.types.specs.Facts.{Sound, Apart}
use Rattle.types.proofs.Meanings.{Below}
use Rattle.types.proofs.Fitting.{Fit, sound-at, tree-at}

-- whole numbers that are the same
pub same_int-tells : (a b : ℤ) → same_int a b ≡ true → a ≡ b
same_int-tells (pos m) (pos n) e = grind (arith, nat_tests)
same_int-tells (pos m) (negsuc n) e = cc
same_int-tells (negsuc m) (pos n) e = cc
same_int-tells (negsuc m) (negsuc n) e = grind (arith, nat_tests)

-- heads of the same numbers
pub same_head-tells : (g h : Head) → same_head g h ≡ true → g ≡ h
same_head-tells g h e = grind (arith, nat_tests, same_int-tells)

pub same_true : (t u : Ty) → same t u ≡ true → t ≡ u
unfolding same
same_true none none e = refl
same_true none (node h c d) e = cc
same_true (node h c d) none e = cc
same_true (node g a b) (node h c d) e = let x = same_true a c in let y = same_true b d in grind (arith, nat_tests)

pub same-itself : (t : Ty) → same t t ≡ true
unfolding same
same-itself none = refl
same-itself (node h c d) = let x = same-itself c in let y = same-itself d in grind (arith, nat_tests)

-- an integer is no wildcard
calm_key : (t : Ty) → is_integer (kind_of t) ≡ true → wild t ≡ false
calm_key t e = grind (arith, nat_tests)

calm_none : Calm none
unfolding Calm
calm_none = tt

-- a part that a record's kind does not have is 0
abbrev pub Spare : TypeRecord → Type 0
Spare r = (has_child r.kind ≡ false → r.child ≡ 0) × (is_dictionary r.kind ≡ false → r.second ≡ 0)

-- two such records are equal where they say the same over the same numbers
same_record : (r q : TypeRecord) → Spare r → Spare q → head_of r ≡ head_of q → (has_child r.kind ≡ true → r.child ≡ q.child) → (is_dictionary r.kind ≡ true → r.second ≡ q.second) → r ≡ q
same_record r q sr sq e c d = grind (arith, nat_tests)

module _ (labels : ℕ) (rs : List TypeRecord) (size : ℕ) (s : Sound labels rs size) (len : size ≤ length rs) where
  at : (n : ℕ) → n < size → tree rs n ≡ grown (tree rs) (get_or rs n blank)
  at n h = tree-at labels rs size n s len h

  fits : (n : ℕ) → n < size → Fit labels n (tree rs) (get_or rs n blank)
  fits n h = sound-at labels rs size n s h

  module _ (apart : Apart rs size) where
    record_tells : (m n : ℕ) → m < size → n < size → get_or rs m blank ≡ get_or rs n blank → m ≡ n
    record_tells m n hm hn e = let a = apart m n in let b = apart n m in grind (arith, common_steps, gets)

    -- two records of one tree, over the parts of that tree, are equal
    tell : (t : Ty) (m n : ℕ) → m < size → n < size → tree rs m ≡ t → tree rs n ≡ t → m ≡ n
    tell none m n hm hn em en = let z = at m hm in grind arith
    tell (node h c d) m n hm hn em en =
        let r = get_or rs m blank in
        let q = get_or rs n blank in
        let x = at m hm in
        let y = at n hn in
        let fr = fits m hm in
        let fq = fits n hn in
        let tc = tell c r.child q.child in
        let td = tell d r.second q.second in
        record_tells m n hm hn (same_record r q (fr.child, fr.second) (fq.child, fq.second) (grind arith) (λ e. grind arith) (λ e. grind arith))

    -- equal trees have one number
    pub numbers_tell : (m n : ℕ) → m < size → n < size → tree rs m ≡ tree rs n → m ≡ n
    numbers_tell m n hm hn e = tell (tree rs n) m n hm hn e refl

    -- a record over types that stand, whose other parts are 0, is that of a number with its tree
    pub record_told : (n : ℕ) (r : TypeRecord) → n < size → Below size r → Spare r → tree rs n ≡ grown (tree rs) r → get_or rs n blank ≡ r
    record_told n r h b z e =
        let q = get_or rs n blank in
        let x = at n h in
        let fq = fits n h in
        let tc = numbers_tell q.child r.child in
        let td = numbers_tell q.second r.second in
        same_record q r (fq.child, fq.second) z (grind arith) (λ t. grind arith) (λ t. grind arith)

    -- the test on numbers is the test on trees
    pub same_tree : (m n : ℕ) → m < size → n < size → same (tree rs m) (tree rs n) ≡ eqb m n
    same_tree m n hm hn = let a = same_true (tree rs m) (tree rs n) in let t = numbers_tell m n hm hn in let b = same-itself (tree rs n) in grind (arith, nat_tests)

  -- no type is deeper than a type may be
  pub flat_at : (n : ℕ) → n < size → depth (tree rs n) ≤ deepest_type
  flat_at n h = let f = (fits n h).flat in grind (arith, at)

  -- a key is an integer
  pub key_at : (n : ℕ) → n < size → is_dictionary (kind_of (tree rs n)) ≡ true → is_integer (kind_of (second_of (tree rs n))) ≡ true
  key_at n h e = let c = (fits n h).key in let a = at n h in grind arith

  -- what a type is made of is no wildcard, at every depth
  pub calm_tree : (t : Ty) (n : ℕ) → n < size → tree rs n ≡ t → Calm t
  unfolding Calm
  calm_tree none n h e = tt
  calm_tree (node g c d) n h e =
      let r = get_or rs n blank in
      let f = fits n h in
      let a = at n h in
      let k = calm_key (tree rs r.second) in (
        grind arith,
        grind arith,
        (
          ⊎_elim (λ z. calm_tree c r.child (omega (arith, f.below.child z)) (grind arith)) (λ z. let e : none ≡ c = grind arith in subst Calm e calm_none) (cases_Bool (has_child r.kind)),
          ⊎_elim (λ z. calm_tree d r.second (omega (arith, f.below.second z)) (grind arith)) (λ z. let e : none ≡ d = grind arith in subst Calm e calm_none) (cases_Bool (is_dictionary r.kind)),
        ),
      )
