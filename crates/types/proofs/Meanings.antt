-- The trees of a list of records: what comes behind leaves what stands before. Assumes nothing.
use Rattle.std.proofs.Common.{◌≡◌, ℕ, ◌+◌, ◌<◌, ◌≤◌, true, List, [], ◌∷◌, ◌++◌, length, get_or, take, drop, set, refl, arith, take-append-drop}
use Rattle.std.proofs.lemmas.Grind.{common_steps}
use Rattle.std.proofs.lemmas.List.{get_or_append_left, get_or_at, get_or_past, drop_more, take-set, take_more, ext_get_or}
use Rattle.terms.specs.Kinds.{has_child}
use Rattle.places.specs.declared.record.TypeRecord.{TypeRecord}
use Rattle.places.specs.Records.{blank}
use Rattle.types.specs.Trees.{Ty, none, is_dictionary, grown, grow, meanings, tree}

grow-append : (ts : List Ty) (rs ss : List TypeRecord) → grow ts (rs ++ ss) ≡ grow (grow ts rs) ss
unfolding grow
grow-append ts [] ss = refl
grow-append ts (r ∷ rs) ss = grow-append (ts ++ (grown (λ n. get_or ts n none) r ∷ [])) rs ss

length_grow : (ts : List Ty) (rs : List TypeRecord) → length (grow ts rs) ≡ length ts + length rs
unfolding grow
length_grow ts [] = omega arith
length_grow ts (r ∷ rs) = grind (arith, common_steps, length_grow (ts ++ (grown (λ n. get_or ts n none) r ∷ [])) rs)

grow-front : (ts : List Ty) (rs : List TypeRecord) (n : ℕ) → n < length ts → get_or (grow ts rs) n none ≡ get_or ts n none
unfolding grow
grow-front ts [] n h = refl
grow-front ts (r ∷ rs) n h = let g = grow-front (ts ++ (grown (λ k. get_or ts k none) r ∷ [])) rs n in grind (arith, common_steps, get_or_append_left)

pub length_meanings : (rs : List TypeRecord) → length (meanings rs) ≡ length rs
unfolding meanings
length_meanings rs = omega (arith, length_grow [] rs)

pub keeps-earlier : (rs ss : List TypeRecord) (n : ℕ) → n < length rs → tree (rs ++ ss) n ≡ tree rs n
unfolding tree meanings
keeps-earlier rs ss n h = let g = grow-front (grow [] rs) ss n in grind (arith, grow-append, length_grow)

pub tree-past : (rs : List TypeRecord) (n : ℕ) → length rs ≤ n → tree rs n ≡ none
unfolding tree
tree-past rs n h = grind (arith, length_meanings, get_or_past)

-- the record that comes next, over what came before
tree-next : (rs : List TypeRecord) (r : TypeRecord) (ss : List TypeRecord) (n : ℕ) → length rs ≡ n → tree (rs ++ r ∷ ss) n ≡ grown (tree rs) r
unfolding tree meanings grow
tree-next rs r ss n h = let g = grow-front (grow [] rs ++ (grown (tree rs) r ∷ [])) ss n in grind (arith, common_steps, grow-append, length_grow, get_or_at)

-- the types that a record is made of come before the place n
pub record Below (n : ℕ) (r : TypeRecord) : Type 0 where
  pub child : has_child r.kind ≡ true → r.child < n
  pub second : is_dictionary r.kind ≡ true → r.second < n

-- two meanings that agree on the parts of a record agree on it
pub grown-same : (f g : ℕ → Ty) (r : TypeRecord) → (has_child r.kind ≡ true → f r.child ≡ g r.child) → (is_dictionary r.kind ≡ true → f r.second ≡ g r.second) → grown f r ≡ grown g r
grown-same f g r p q = grind arith

-- so do two that agree below n, on a record at n
pub grown-below : (f g : ℕ → Ty) (n : ℕ) (r : TypeRecord) → Below n r → ((k : ℕ) → k < n → f k ≡ g k) → grown f r ≡ grown g r
grown-below f g n r b h = grown-same f g r (λ e. h r.child (b.child e)) (λ e. h r.second (b.second e))

pub tree-take : (xs : List TypeRecord) (k n : ℕ) → k ≤ length xs → n < k → tree (take k xs) n ≡ tree xs n
tree-take xs k n h l = let e = keeps-earlier (take k xs) (drop k xs) n in grind (arith, common_steps)

-- what a number stands for: its record, over what its parts stand for
pub tree_placed : (rs : List TypeRecord) (n : ℕ) → Below n (get_or rs n blank) → n < length rs → tree rs n ≡ grown (tree rs) (get_or rs n blank)
tree_placed rs n p h =
    let e = tree-next (take n rs) (get_or rs n blank) (drop (n + 1) rs) n in
    let b = grown-below (tree (take n rs)) (tree rs) n (get_or rs n blank) p (λ k lt. tree-take rs n k (omega arith) lt) in
    grind (arith, common_steps, drop_more, take-append-drop)

-- a record that is written at n leaves what stands below
pub tree_set : (xs : List TypeRecord) (n j : ℕ) (r : TypeRecord) → n < length xs → j < n → tree (set xs n r) j ≡ tree xs j
tree_set xs n j r h l = let a = tree-take (set xs n r) n j in let b = tree-take xs n j in grind (arith, common_steps, take-set)

-- and stands there for its tree
pub tree-new : (xs : List TypeRecord) (n : ℕ) (r : TypeRecord) → n < length xs → Below n r → tree (set xs n r) n ≡ grown (tree xs) r
tree-new xs n r h p =
    let a = tree_placed (set xs n r) n in
    let b = grown-below (tree (set xs n r)) (tree xs) n r p (λ k lt. tree_set xs n k r h lt) in
    grind (arith, common_steps)

-- the trees before the record stay
pub meanings-front : (xs : List TypeRecord) (n : ℕ) (r : TypeRecord) → n < length xs → take n (meanings (set xs n r)) ≡ take n (meanings xs)
unfolding tree
meanings-front xs n r h = ext_get_or none _ _ (grind (arith, common_steps, length_meanings)) (λ i l. let t = tree_set xs n i r h in grind (arith, common_steps, length_meanings))

-- and its own comes behind them
pub meanings-more : (xs : List TypeRecord) (n : ℕ) (r : TypeRecord) → n < length xs → Below n r → take (n + 1) (meanings (set xs n r)) ≡ take n (meanings xs) ++ grown (tree xs) r ∷ []
unfolding tree
meanings-more xs n r h p =
    let a = tree-new xs n r h p in
    let b = meanings-front xs n r h in
    let c = take_more (meanings (set xs n r)) n none in
    grind (arith, common_steps, length_meanings)
