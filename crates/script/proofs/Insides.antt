-- The texts of a line lie where its tokens do. Assumes nothing.
use Rattle.std.proofs.Common.{◌≡◌, ℕ, Bool, true, false, cond, List, [], ◌∷◌, ◌++◌, length, Some, None, vec_items, Option, subst, arith}
use Rattle.std.specs.List.{AllByRecursion}
use Rattle.arguments.specs.declared.written.Argument.{Argument}
use Rattle.arguments.specs.declared.written.ArgumentName.{ArgumentName}
use Rattle.script.specs.declared.tokens.Span.{Span}
use Rattle.script.specs.declared.tokens.Token.{Token}
use Rattle.script.specs.declared.tokens.Token.TheVariants.{Word, Quoted, Number}
use Rattle.script.specs.declared.items.Text.{Text}
use Rattle.script.specs.declared.lines.Line.{Line}
use Rattle.script.specs.declared.lines.Line.TheVariants as line
use Rattle.script.specs.Seen.{Inside, Within}
use Rattle.script.specs.Spelling.{text_token, text_of, spelled_text, spelled_name, spelled_argument, tail, items}
use Rattle.script.specs.Lines.{spelled_named, paired, form, Level, Spelled}
use Rattle.script.specs.Whole.{NameInside, TextInside, LineInside}

either_inside : (n : ℕ) (s : Span) (q : Bool) → Within n (cond q (Quoted s) (Word s)) → Inside n s
either_inside n s true h = h
either_inside n s false h = h

text-inside : (n : ℕ) (t : Text) → Within n (text_token t) → TextInside n t
text-inside n t h = either_inside n t.span t.is_quoted h

every_parts : {X : Type 0} (P : X → Type 0) (a b : List X) → AllByRecursion P (a ++ b) → AllByRecursion P a × AllByRecursion P b
every_parts P [] b h = (tt, h)
every_parts P (x ∷ a) b h = let g = every_parts P a b h.1 in ((h.0, g.0), g.1)

module _ {X : Type 0} (n : ℕ) (spelled : X → List Token) (P : X → Type 0) (each : (x : X) → AllByRecursion (Within n) (spelled x) → P x) where
  tail_inside : (xs : List X) → AllByRecursion (Within n) (tail spelled xs) → AllByRecursion P xs
  unfolding tail
  tail_inside [] h = tt
  tail_inside (x ∷ xs) h = let g = every_parts (Within n) (spelled x) (tail spelled xs) h.1 in (each x g.0, tail_inside xs g.1)

  items_inside : (xs : List X) → AllByRecursion (Within n) (items spelled xs) → AllByRecursion P xs
  items_inside [] h = tt
  items_inside (x ∷ xs) h = let g = every_parts (Within n) (spelled x) (tail spelled xs) h in (each x g.0, tail_inside xs g.1)

  -- a keyword, a name and a list
  line_inside : (t : Token) (m : Text) (xs : List X) (ts : List Token) → ts ≡ t ∷ spelled_named spelled m xs → AllByRecursion (Within n) ts → TextInside n m × AllByRecursion P xs
  line_inside t m xs ts e h = let g = subst (AllByRecursion (Within n)) e h in (text-inside n m g.1.0, items_inside xs g.1.1.1)

name-inside : (n : ℕ) (m : Option ArgumentName) (i : ℕ) → AllByRecursion (Within n) (spelled_name m (Number i ∷ [])) → NameInside n m
name-inside n None i h = tt
name-inside n (Some m) i h = text-inside n (text_of m) h.0

names-inside : (n : ℕ) (args : List Argument) (names : List (Option ArgumentName)) → length names ≡ length args → AllByRecursion (λ w. NameInside n w.name) (paired args names) → AllByRecursion (NameInside n) names
names-inside n args [] e h = tt
names-inside n [] (m ∷ names) e h = absurd (omega arith)
names-inside n (a ∷ args) (m ∷ names) e h = let k : length names ≡ length args = omega arith in (h.0, names-inside n args names k h.1)

pub inside : (text : List ℕ) (n : ℕ) (l : Line) (ts : List Token) → AllByRecursion (Within n) ts → Level l → Spelled text (form l) ts → LineInside n l
inside text n line.Blank ts h v s = tt
inside text n (line.Function f) ts h v s = line_inside n spelled_text (TextInside n) (λ x k. text-inside n x k.0) s.0 f.name (vec_items f.params) ts s.2 h
inside text n (line.Arguments a) ts h v s =
    let g = line_inside n spelled_argument (λ w. NameInside n w.name) (λ w k. name-inside n w.name w.id k) s.0 a.name (paired (vec_items a.args) (vec_items a.names)) ts s.2 h in
    (g.0, names-inside n (vec_items a.args) (vec_items a.names) v.0 g.1)
