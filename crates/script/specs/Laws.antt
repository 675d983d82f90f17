-- The spellings of the items, each told from the others. Assumes nothing.
use Rattle.std.specs.Prelude.{◌≡◌, ℕ, ◌<◌, Bool, true, false, cond, List, [], ◌∷◌, ◌++◌, length, Some, None, Option, ◌≢◌, refl}
use Rattle.std.proofs.Common.{sym, ap, ◌∙◌, arith}
use Rattle.arguments.specs.declared.written.ArgumentName.{ArgumentName}
use Rattle.script.specs.declared.tokens.Span.{Span}
use Rattle.script.specs.declared.tokens.Token.{Token}
use Rattle.script.specs.declared.tokens.Token.TheVariants.{Word, Quoted, Number, Open, Close, Comma, Arrow}
use Rattle.script.specs.declared.items.Text.{Text}
use Rattle.script.specs.Spelling.{text_token, spelled_text, text_of, name_of, spelled_name, spelled_argument, Apart}

-- the text of a token, or another one
abbrev back : Text → Token → Text
back d (Word s) = record { span = s; is_quoted = false }
back d (Quoted s) = record { span = s; is_quoted = true }
back d (Number n) = d
back d Open = d
back d Close = d
back d Comma = d
back d Arrow = d

-- the token of a text gives the text back
back_go : (d : Text) (s : Span) (q : Bool) → back d (cond q (Quoted s) (Word s)) ≡ record { span = s; is_quoted = q }
back_go d s true = refl
back_go d s false = refl

-- the token of a text gives the text back
back_of : (d t : Text) → back d (text_token t) ≡ t
back_of d t = back_go d t.span t.is_quoted

-- a token is of one text alone
pub same_text : (t u : Text) → text_token t ≡ text_token u → t ≡ u
same_text t u e = sym (back_of t t) ∙ ap (back t) e ∙ back_of t u

-- neither a word nor a quoted text ends a list
no_close : (s : Span) (q : Bool) → cond q (Quoted s) (Word s) ≢ Close
no_close s true e = cc
no_close s false e = cc

-- no text ends a list
close_text : (t : Text) → text_token t ≢ Close
close_text t e = no_close t.span t.is_quoted e

-- texts are told from one another
pub texts_apart : Apart spelled_text
texts_apart = record {
  some = λ x. omega arith;
  inner = λ x a b e. let h : text_token x ≡ Close = cc in close_text x h;
  only = λ x y a b e. let h : text_token x ≡ text_token y = cc in let t : a ≡ b = cc in (same_text x y h, t);
}

-- neither a word nor a quoted text is a number
no_number : (n : ℕ) (s : Span) (q : Bool) → Number n ≢ cond q (Quoted s) (Word s)
no_number n s true e = cc
no_number n s false e = cc

-- no number is a text
pub number_text : (n : ℕ) (t : Text) → Number n ≢ text_token t
number_text n t e = no_number n t.span t.is_quoted e

-- an argument is told by its tokens
arguments_only : (m n : Option ArgumentName) (i j : ℕ) (a b : List Token) → spelled_name m (Number i ∷ []) ++ a ≡ spelled_name n (Number j ∷ []) ++ b → (i ≡ j) × (m ≡ n) × (a ≡ b)
arguments_only None None i j a b e = let h : i ≡ j = cc in let t : a ≡ b = cc in (h, refl, t)
arguments_only None (Some n) i j a b e = let h : Number i ≡ text_token (text_of n) = cc in absurd (number_text i (text_of n) h)
arguments_only (Some m) None i j a b e = let h : Number j ≡ text_token (text_of m) = cc in absurd (number_text j (text_of m) h)
arguments_only (Some m) (Some n) i j a b e =
    let h : text_token (text_of m) ≡ text_token (text_of n) = cc in
    let k : i ≡ j = cc in
    let t : a ≡ b = cc in
    (k, ap (λ x. Some (name_of x)) (same_text (text_of m) (text_of n) h), t)

-- an argument has some token
some_name : (m : Option ArgumentName) (i : ℕ) → 0 < length (spelled_name m (Number i ∷ []))
some_name None i = omega arith
some_name (Some m) i = omega arith

-- no argument begins with the end of a list
inner_name : (m : Option ArgumentName) (i : ℕ) (a b : List Token) → spelled_name m (Number i ∷ []) ++ a ≢ Close ∷ b
inner_name None i a b e = cc
inner_name (Some m) i a b e = let h : text_token (text_of m) ≡ Close = cc in close_text (text_of m) h

-- arguments are told from one another
pub arguments_apart : Apart spelled_argument
arguments_apart = record {
  some = λ x. some_name x.name x.id;
  inner = λ x a b e. inner_name x.name x.id a b e;
  only = λ x y a b e. let h = arguments_only x.name y.name x.id y.id a b e in (λ i. record { id = h.0 i; name = h.1 i }, h.2);
}
