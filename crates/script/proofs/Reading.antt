-- A list of items, read one after the other. Assumes nothing.
use Rattle.script.specs.declared.tokens.Token.{Token}
use Rattle.script.specs.declared.tokens.Token.TheVariants.{Close, Comma}
use Rattle.script.specs.Spelling.{tail, spelled_list, Apart, Foreign}
use Rattle.std.proofs.Common.{◌≡◌, ℕ, List, [], ◌∷◌, ◌++◌, sym, refl, ap, ◌∙◌, append_assoc, arith}

-- so far xs stands in a list, and rest begins with its next item
pub record Reading {X : Type 0} (spelled : X → List Token) (ts : List Token) (xs : List X) (rest : List Token) : Type 0 where
  pub gives : (y : X) (ys : List X) (z : List Token) → rest ≡ (spelled y ++ tail spelled ys) ++ z → ts ≡ spelled_list spelled (xs ++ y ∷ ys) ++ z
  pub has : (ws : List X) (z : List Token) → ts ≡ spelled_list spelled ws ++ z → (y : X) × (ys : List X) × (ws ≡ xs ++ y ∷ ys) × (rest ≡ (spelled y ++ tail spelled ys) ++ z)

module _ {X : Type 0} (spelled : X → List Token) (apart : Apart spelled) where
  -- what follows the next item, in a list
  past : (x y : X) (ys : List X) (rest after z : List Token) → rest ≡ spelled x ++ after → rest ≡ (spelled y ++ tail spelled ys) ++ z → (x ≡ y) × (after ≡ tail spelled ys ++ z)
  past x y ys rest after z e h = apart.only x y after (tail spelled ys ++ z) (sym e ∙ h ∙ append_assoc (spelled y) (tail spelled ys) z)

  comma_tail : (ys : List X) (more z : List Token) → Comma ∷ more ≡ tail spelled ys ++ z → (y : X) × (zs : List X) × (ys ≡ y ∷ zs) × (more ≡ (spelled y ++ tail spelled zs) ++ z)
  unfolding tail
  comma_tail [] more z e = let q : ◌≡◌ {A = ℕ} 0 1 = cc in absurd (omega arith)
  comma_tail (y ∷ ys) more z e = let q : more ≡ (spelled y ++ tail spelled ys) ++ z = cc in (y, ys, refl, q)

  -- an item and a comma more
  module _ (ts rest after more : List Token) (xs : List X) (x : X) (r : Reading spelled ts xs rest) (e : rest ≡ spelled x ++ after) (k : after ≡ Comma ∷ more) where
    gives_more : (y : X) (ys : List X) (z : List Token) → more ≡ (spelled y ++ tail spelled ys) ++ z → ts ≡ spelled_list spelled ((xs ++ x ∷ []) ++ y ∷ ys) ++ z
    unfolding tail
    gives_more y ys z h =
        let at : rest ≡ (spelled x ++ tail spelled (y ∷ ys)) ++ z = e ∙ ap (λ a. spelled x ++ a) (k ∙ ap (λ m. Comma ∷ m) h) ∙ sym (append_assoc (spelled x) (tail spelled (y ∷ ys)) z) in
        r.gives x (y ∷ ys) z at ∙ ap (λ l. spelled_list spelled l ++ z) (sym (append_assoc xs (x ∷ []) (y ∷ ys)))

    has_more : (ws : List X) (z : List Token) → ts ≡ spelled_list spelled ws ++ z → (y : X) × (ys : List X) × (ws ≡ (xs ++ x ∷ []) ++ y ∷ ys) × (more ≡ (spelled y ++ tail spelled ys) ++ z)
    has_more ws z h =
        let g = r.has ws z h in
        let p = past x g.0 g.1 rest after z e g.3 in
        let t = comma_tail g.1 more z (sym k ∙ p.1) in
        (t.0, t.1, g.2 ∙ (λ i. xs ++ sym p.0 i ∷ t.2 i) ∙ sym (append_assoc xs (x ∷ []) (t.0 ∷ t.1)), t.3)

    pub goes_further : Reading spelled ts (xs ++ x ∷ []) more
    goes_further = record { gives = gives_more; has = has_more }

  -- an item and the end
  pub ends : (ts rest after more : List Token) (xs : List X) (x : X) → Reading spelled ts xs rest → rest ≡ spelled x ++ after → after ≡ Close ∷ more → ts ≡ spelled_list spelled (xs ++ x ∷ []) ++ more
  unfolding tail
  ends ts rest after more xs x r e k =
      r.gives x [] more (e ∙ ap (λ a. spelled x ++ a) k ∙ sym (append_assoc (spelled x) (Close ∷ []) more))

  tail_head : (ys : List X) (after z : List Token) → after ≡ tail spelled ys ++ z → ((more : List Token) → after ≡ Close ∷ more → ⊥) → ((more : List Token) → after ≡ Comma ∷ more → ⊥) → ⊥
  unfolding tail
  tail_head [] after z e n m = n z e
  tail_head (y ∷ ys) after z e n m = m ((spelled y ++ tail spelled ys) ++ z) e

  pub no_separator : (ts rest after : List Token) (xs : List X) (x : X) → Reading spelled ts xs rest → rest ≡ spelled x ++ after → ((more : List Token) → after ≡ Close ∷ more → ⊥) → ((more : List Token) → after ≡ Comma ∷ more → ⊥) → Foreign (spelled_list spelled) ts
  no_separator ts rest after xs x r e n m ws z h =
      let g = r.has ws z h in
      let p = past x g.0 g.1 rest after z e g.3 in
      tail_head g.1 after z p.1 n m
