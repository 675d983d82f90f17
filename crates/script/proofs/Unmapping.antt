-- Tokens that are seen as what a line says spell a line. Assumes nothing.
use Rattle.std.proofs.Common.{◌≡◌, ℕ, Bool, true, false, cond, List, [], ◌∷◌, ◌++◌, map, Some, None, Option, sym, refl, ap, ◌∙◌, subst}
use Rattle.std.proofs.lemmas.List.{map-append}
use Rattle.arguments.specs.declared.written.ArgumentName.{ArgumentName}
use Rattle.script.specs.declared.tokens.Span.{Span}
use Rattle.script.specs.declared.tokens.Token.{Token}
use Rattle.script.specs.declared.tokens.Token.TheVariants.{Word, Quoted, Number, Open, Close, Comma, Arrow}
use Rattle.script.specs.declared.items.Text.{Text}
use Rattle.script.specs.declared.lines.Keyword.{Keyword}
use Rattle.script.specs.declared.lines.Keyword.TheVariants as keyword
use Rattle.script.specs.Tokens as tokens
use Rattle.script.specs.Tokens.{Tok}
use Rattle.script.specs.Seen.{bytes, seen}
use Rattle.script.specs.Spelling.{text_token, text_of, name_of, spelled_text, spelled_name, spelled_argument, tail, items}
use Rattle.script.specs.Lines.{Form, blank, function, arguments, letters, spelled_named, Headed, Spelled}
use Rattle.script.specs.Whole.{shown}

-- a token, with nothing of its text
abbrev bare : Token → Token
bare (Word s) = Word (record { start = 0; len = 0 })
bare (Quoted s) = Quoted (record { start = 0; len = 0 })
bare (Number n) = Number n
bare Open = Open
bare Close = Close
bare Comma = Comma
bare Arrow = Arrow

abbrev mark : Tok → Token
mark (tokens.word b) = Word (record { start = 0; len = 0 })
mark (tokens.quoted b) = Quoted (record { start = 0; len = 0 })
mark (tokens.number n) = Number n
mark tokens.opens = Open
mark tokens.closes = Close
mark tokens.comma = Comma
mark tokens.arrow = Arrow

mark_seen : (text : List ℕ) (t : Token) → mark (seen text t) ≡ bare t
mark_seen text (Word s) = refl
mark_seen text (Quoted s) = refl
mark_seen text (Number n) = refl
mark_seen text Open = refl
mark_seen text Close = refl
mark_seen text Comma = refl
mark_seen text Arrow = refl

-- a token has no text
abbrev Plain : Token → Type 0
Plain (Word s) = ⊥
Plain (Quoted s) = ⊥
Plain (Number n) = Unit {0}
Plain Open = Unit {0}
Plain Close = Unit {0}
Plain Comma = Unit {0}
Plain Arrow = Unit {0}

plain_back : (t p : Token) → Plain p → bare t ≡ p → t ≡ p
plain_back (Word s) p h e = absurd (subst Plain (sym e) h)
plain_back (Quoted s) p h e = absurd (subst Plain (sym e) h)
plain_back (Number n) p h e = e
plain_back Open p h e = e
plain_back Close p h e = e
plain_back Comma p h e = e
plain_back Arrow p h e = e

-- a token has a text
abbrev Lettered : Token → Type 0
Lettered (Word s) = Unit {0}
Lettered (Quoted s) = Unit {0}
Lettered (Number n) = ⊥
Lettered Open = ⊥
Lettered Close = ⊥
Lettered Comma = ⊥
Lettered Arrow = ⊥

lettered : (s : Span) (q : Bool) → Lettered (bare (cond q (Quoted s) (Word s)))
lettered s true = tt
lettered s false = tt

text_of-lettered : (t : Token) → Lettered (bare t) → (n : Text) × (t ≡ text_token n)
text_of-lettered (Word s) h = (record { span = s; is_quoted = false }, refl)
text_of-lettered (Quoted s) h = (record { span = s; is_quoted = true }, refl)
text_of-lettered (Number n) h = absurd h
text_of-lettered Open h = absurd h
text_of-lettered Close h = absurd h
text_of-lettered Comma h = absurd h
text_of-lettered Arrow h = absurd h

word_back : (text : List ℕ) (t : Token) (b : List ℕ) → seen text t ≡ tokens.word b → (s : Span) × (t ≡ Word s) × (bytes text s ≡ b)
word_back text (Word s) b e = let q : bytes text s ≡ b = cc in (s, refl, q)
word_back text (Quoted s) b e = absurd cc
word_back text (Number n) b e = absurd cc
word_back text Open b e = absurd cc
word_back text Close b e = absurd cc
word_back text Comma b e = absurd cc
word_back text Arrow b e = absurd cc

comma-then : (ts rest a b u v : List Token) (t : Token) → ts ≡ t ∷ rest → t ≡ Comma → rest ≡ a ++ b → a ≡ u → b ≡ v → ts ≡ Comma ∷ (u ++ v)
comma-then ts rest a b u v t e p q h k = e ∙ (λ i. p i ∷ (q ∙ (λ j. h j ++ k j)) i)

module _ (text : List ℕ) where
  nil_back : (ts : List Token) → map (seen text) ts ≡ [] → ts ≡ []
  nil_back [] e = refl
  nil_back (t ∷ ts) e = absurd cc

  cons_back : (ts : List Token) (x : Tok) (xs : List Tok) → map (seen text) ts ≡ x ∷ xs → (t : Token) × (rest : List Token) × (ts ≡ t ∷ rest) × (seen text t ≡ x) × (map (seen text) rest ≡ xs)
  cons_back [] x xs e = absurd cc
  cons_back (t ∷ ts) x xs e = let p : seen text t ≡ x = cc in let q : map (seen text) ts ≡ xs = cc in (t, ts, refl, p, q)

  append_back : (ts : List Token) (xs ys : List Tok) → map (seen text) ts ≡ xs ++ ys → (a : List Token) × (b : List Token) × (ts ≡ a ++ b) × (map (seen text) a ≡ xs) × (map (seen text) b ≡ ys)
  append_back ts [] ys e = ([], ts, refl, refl, e)
  append_back ts (x ∷ xs) ys e =
      let c = cons_back ts x (xs ++ ys) e in
      let g = append_back c.1 xs ys c.4 in
      (c.0 ∷ g.0, g.1, c.2 ∙ ap (λ r. c.0 ∷ r) g.2, λ i. c.3 i ∷ g.3 i, g.4)

  module _ (other : List ℕ) where
    -- a token that is seen as one with no text is that one
    same_plain : (t p : Token) → Plain p → bare p ≡ p → seen text t ≡ seen other p → t ≡ p
    same_plain t p h b e = plain_back t p h (sym (mark_seen text t) ∙ ap mark e ∙ mark_seen other p ∙ b)

    same_text : (t : Token) (n : Text) → seen text t ≡ seen other (text_token n) → (m : Text) × (t ≡ text_token m)
    same_text t n e =
        text_of-lettered t (subst Lettered (sym (sym (mark_seen text t) ∙ ap mark e ∙ mark_seen other (text_token n))) (lettered n.span n.is_quoted))

    -- some tokens that are seen as a thing spell such a thing
    abbrev Back : {X : Type 0} → (X → List Token) → Type 0
    Back {X} spelled = (ts : List Token) (x : X) → map (seen text) ts ≡ map (seen other) (spelled x) → (y : X) × (ts ≡ spelled y)

    text_back : Back spelled_text
    text_back ts n e =
        let c = cons_back ts _ [] e in
        let m = same_text c.0 n c.3 in
        (m.0, c.2 ∙ (λ i. m.1 i ∷ nil_back c.1 c.4 i))

    name_back : (m : Option ArgumentName) (i : ℕ) (ts : List Token) → map (seen text) ts ≡ map (seen other) (spelled_name m (Number i ∷ [])) → (n : Option ArgumentName) × (ts ≡ spelled_name n (Number i ∷ []))
    name_back None i ts e =
        let c = cons_back ts (tokens.number i) [] e in
        (None, c.2 ∙ (λ j. same_plain c.0 (Number i) tt refl c.3 j ∷ nil_back c.1 c.4 j))
    name_back (Some m) i ts e =
        let c = cons_back ts (seen other (text_token (text_of m))) (tokens.arrow ∷ tokens.number i ∷ []) e in
        let a = cons_back c.1 tokens.arrow (tokens.number i ∷ []) c.4 in
        let n = cons_back a.1 (tokens.number i) [] a.4 in
        let t = same_text c.0 (text_of m) c.3 in
        (Some (name_of t.0), c.2 ∙ (λ j. t.1 j ∷ (a.2 ∙ (λ k. same_plain a.0 Arrow tt refl a.3 k ∷ (n.2 ∙ (λ l. same_plain n.0 (Number i) tt refl n.3 l ∷ nil_back n.1 n.4 l)) k)) j))

    argument_back : Back spelled_argument
    argument_back ts w e = let g = name_back w.name w.id ts e in (record { id = w.id; name = g.0 }, g.1)

    module _ {X : Type 0} (spelled : X → List Token) (back : Back spelled) where
      tail_back : (xs : List X) (ts : List Token) → map (seen text) ts ≡ map (seen other) (tail spelled xs) → (ys : List X) × (ts ≡ tail spelled ys)
      unfolding tail
      tail_back [] ts e =
          let c = cons_back ts tokens.closes [] e in
          ([], c.2 ∙ (λ i. same_plain c.0 Close tt refl c.3 i ∷ nil_back c.1 c.4 i))
      tail_back (x ∷ xs) ts e =
          let c = cons_back ts tokens.comma (map (seen other) (spelled x ++ tail spelled xs)) e in
          let g = append_back c.1 (map (seen other) (spelled x)) (map (seen other) (tail spelled xs)) (c.4 ∙ map-append (seen other) (spelled x) (tail spelled xs)) in
          let y = back g.0 x g.3 in
          let r = tail_back xs g.1 g.4 in
          (y.0 ∷ r.0, comma-then ts c.1 g.0 g.1 (spelled y.0) (tail spelled r.0) c.0 c.2 (same_plain c.0 Comma tt refl c.3) g.2 y.1 r.1)

      items_back : (xs : List X) (ts : List Token) → map (seen text) ts ≡ map (seen other) (items spelled xs) → (ys : List X) × (ts ≡ items spelled ys)
      items_back [] ts e =
          let c = cons_back ts tokens.closes [] e in
          ([], c.2 ∙ (λ i. same_plain c.0 Close tt refl c.3 i ∷ nil_back c.1 c.4 i))
      items_back (x ∷ xs) ts e =
          let g = append_back ts (map (seen other) (spelled x)) (map (seen other) (tail spelled xs)) (e ∙ map-append (seen other) (spelled x) (tail spelled xs)) in
          let y = back g.0 x g.3 in
          let r = tail_back xs g.1 g.4 in
          (y.0 ∷ r.0, g.2 ∙ (λ j. y.1 j ++ r.1 j))

      named_back : (n : Text) (xs : List X) (ts : List Token) → map (seen text) ts ≡ map (seen other) (spelled_named spelled n xs) → (m : Text) × (ys : List X) × (ts ≡ spelled_named spelled m ys)
      named_back n xs ts e =
          let c = cons_back ts (seen other (text_token n)) (tokens.opens ∷ map (seen other) (items spelled xs)) e in
          let o = cons_back c.1 tokens.opens (map (seen other) (items spelled xs)) c.4 in
          let r = items_back xs o.1 o.4 in
          let t = same_text c.0 n c.3 in
          (t.0, r.0, c.2 ∙ (λ i. t.1 i ∷ (o.2 ∙ (λ j. same_plain o.0 Open tt refl o.3 j ∷ r.1 j)) i))

    headed_back : {X : Type 0} (spelled : X → List Token) (back : Back spelled) (k : Keyword) (n : Text) (xs : List X) (ts : List Token) → map (seen text) ts ≡ tokens.word (letters k) ∷ map (seen other) (spelled_named spelled n xs) → (m : Text) × (ys : List X) × Headed text k (spelled_named spelled m ys) ts
    headed_back spelled back k n xs ts e =
        let c = cons_back ts (tokens.word (letters k)) (map (seen other) (spelled_named spelled n xs)) e in
        let w = word_back text c.0 (letters k) c.3 in
        let r = named_back spelled back n xs c.1 c.4 in
        (r.0, r.1, (c.0, w, c.2 ∙ ap (λ l. c.0 ∷ l) r.2))

    -- tokens that are seen as what a line says spell a line
    pub form_back : (f : Form) (ts : List Token) → map (seen text) ts ≡ shown other f → (g : Form) × Spelled text g ts
    form_back blank ts e = (blank, nil_back ts e)
    form_back (function n ps) ts e = let h = headed_back spelled_text text_back keyword.Function n ps ts e in (function h.0 h.1, h.2)
    form_back (arguments n ws) ts e = let h = headed_back spelled_argument argument_back keyword.Arguments n ws ts e in (arguments h.0 h.1, h.2)

-- what is spelled is seen so
pub form-seen : (text : List ℕ) (f : Form) (ts : List Token) → Spelled text f ts → map (seen text) ts ≡ shown text f
form-seen text blank ts s = ap (map (seen text)) s
form-seen text (function n ps) ts s = ap (map (seen text)) s.2 ∙ (λ i. (ap (seen text) s.1.1 ∙ ap tokens.word s.1.2) i ∷ map (seen text) (spelled_named spelled_text n ps))
form-seen text (arguments n ws) ts s = ap (map (seen text)) s.2 ∙ (λ i. (ap (seen text) s.1.1 ∙ ap tokens.word s.1.2) i ∷ map (seen text) (spelled_named spelled_argument n ws))
