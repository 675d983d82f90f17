-- A name and a list that end the line. Assumes nothing.
use Rattle.std.proofs.Common.{◌≡◌, List, [], ◌∷◌, ◌++◌, length, sym, ap, ◌∙◌, append_assoc, append-nil}
use Rattle.script.specs.declared.tokens.Token.{Token}
use Rattle.script.specs.declared.items.Text.{Text}
use Rattle.script.specs.Spelling.{text_token, tail, items, spelled_list, Apart, Foreign}
use Rattle.script.specs.Lines.{spelled_named}

module _ {X : Type 0} (spelled : X → List Token) (apart : Apart spelled) where
  -- what follows the rest of a list is told by the tokens
  tails_only : (xs ys : List X) (a b : List Token) → tail spelled xs ++ a ≡ tail spelled ys ++ b → a ≡ b
  unfolding tail
  tails_only [] [] a b e = cc
  tails_only [] (y ∷ ys) a b e = absurd cc
  tails_only (x ∷ xs) [] a b e = absurd cc
  tails_only (x ∷ xs) (y ∷ ys) a b e =
      let h : (spelled x ++ tail spelled xs) ++ a ≡ (spelled y ++ tail spelled ys) ++ b = cc in
      tails_only xs ys a b (apart.only x y _ _ (sym (append_assoc (spelled x) (tail spelled xs) a) ∙ h ∙ append_assoc (spelled y) (tail spelled ys) b)).1

  items_only : (xs ys : List X) (a b : List Token) → items spelled xs ++ a ≡ items spelled ys ++ b → a ≡ b
  items_only [] [] a b e = cc
  items_only [] (y ∷ ys) a b e = absurd (apart.inner y (tail spelled ys ++ b) a (sym (append_assoc (spelled y) (tail spelled ys) b) ∙ sym e))
  items_only (x ∷ xs) [] a b e = absurd (apart.inner x (tail spelled xs ++ a) b (sym (append_assoc (spelled x) (tail spelled xs) a) ∙ e))
  items_only (x ∷ xs) (y ∷ ys) a b e =
      tails_only xs ys a b (apart.only x y _ _ (sym (append_assoc (spelled x) (tail spelled xs) a) ∙ e ∙ append_assoc (spelled y) (tail spelled ys) b)).1

  -- what follows a list is told by the tokens
  lists_only : (xs ys : List X) (a b : List Token) → spelled_list spelled xs ++ a ≡ spelled_list spelled ys ++ b → a ≡ b
  lists_only xs ys a b e = let h : items spelled xs ++ a ≡ items spelled ys ++ b = cc in items_only xs ys a b h

  pub no_list : (ts after : List Token) (n : Text) → ts ≡ text_token n ∷ after → Foreign (spelled_list spelled) after → (m : Text) (ys : List X) → ts ≡ spelled_named spelled m ys → ⊥
  no_list ts after n e f m ys h =
      let q : after ≡ spelled_list spelled ys = cc in
      f ys [] (q ∙ sym (append-nil (spelled_list spelled ys)))

  pub no_more : (ts after rest : List Token) (n : Text) (xs : List X) → ts ≡ text_token n ∷ after → after ≡ spelled_list spelled xs ++ rest → (length rest ≡ 0 → ⊥) → (m : Text) (ys : List X) → ts ≡ spelled_named spelled m ys → ⊥
  no_more ts after rest n xs e h z m ys k =
      let q : after ≡ spelled_list spelled ys = cc in
      z (ap length (lists_only xs ys rest [] (sym h ∙ q ∙ sym (append-nil (spelled_list spelled ys)))))
