-- How things are spelled as tokens. Assumes nothing.
use Rattle.std.specs.Prelude.{◌≡◌, ℕ, ◌<◌, cond, List, [], ◌∷◌, ◌++◌, length, Some, None, Ok, Err, vec_items, Option, Result, Vec, ◌≢◌}
use Rattle.std.specs.declared.alloc.Global.{Global}
use Rattle.std.specs.Borrow.{Bor}
use Rattle.arguments.specs.declared.written.ArgumentName.{ArgumentName}
use Rattle.script.specs.declared.fault.Fault.{Fault}
use Rattle.script.specs.declared.tokens.Token.{Token}
use Rattle.script.specs.declared.tokens.Token.TheVariants.{Word, Quoted, Number, Open, Close, Comma, Arrow}
use Rattle.script.specs.declared.items.Text.{Text}
use Rattle.script.specs.declared.items.Written.{Written}
use Rattle.script.specs.Seen.{Expects}

-- the token of a text: quoted, or a word
abbrev pub text_token : Text → Token
text_token t = cond t.is_quoted (Quoted t.span) (Word t.span)

-- a text is one token
abbrev pub spelled_text : Text → List Token
spelled_text t = text_token t ∷ []

-- the text that a name is
abbrev pub text_of : ArgumentName → Text
text_of n = record { span = record { start = n.start; len = n.len }; is_quoted = n.is_quoted }

-- the name that a text is
abbrev pub name_of : Text → ArgumentName
name_of t = record { start = t.span.start; len = t.span.len; is_quoted = t.is_quoted }

-- what stands before the id of an argument: nothing, or its name and an arrow
abbrev pub spelled_name : Option ArgumentName → List Token → List Token
spelled_name None rest = rest
spelled_name (Some n) rest = text_token (text_of n) ∷ Arrow ∷ rest

-- an argument: its id, behind its own name where it has one
abbrev pub spelled_argument : Written → List Token
spelled_argument w = spelled_name w.name (Number w.id ∷ [])

-- an id is one token
abbrev pub spelled_id : ℕ → List Token
spelled_id n = Number n ∷ []

-- the rest of a list, behind an item
unfoldable pub tail : {X : Type 0} → (X → List Token) → List X → List Token
tail spelled [] = Close ∷ []
tail spelled (x ∷ xs) = Comma ∷ (spelled x ++ tail spelled xs)

-- the items with commas between them, and the end of the list
abbrev pub items : {X : Type 0} → (X → List Token) → List X → List Token
items spelled [] = Close ∷ []
items spelled (x ∷ xs) = spelled x ++ tail spelled xs

-- a list in parentheses
abbrev pub spelled_list : {X : Type 0} → (X → List Token) → List X → List Token
spelled_list spelled xs = Open ∷ items spelled xs

-- each thing is spelled by some token, first no end of a list, and no spelling begins another
pub record Apart {X : Type 0} (spelled : X → List Token) : Type 0 where
  pub some : (x : X) → 0 < length (spelled x)
  pub inner : (x : X) (a b : List Token) → spelled x ++ a ≢ Close ∷ b
  pub only : (x y : X) (a b : List Token) → spelled x ++ a ≡ spelled y ++ b → (x ≡ y) × (a ≡ b)

-- no spelling of such a thing begins the tokens
abbrev pub Foreign : {X : Type 0} → (X → List Token) → List Token → Type 0
Foreign {X} spelled ts = (x : X) (rest : List Token) → ts ≢ spelled x ++ rest

-- what the tokens begin with, and what follows it; or that they begin with none
abbrev pub Begins : {X : Type 0} → (X → List Token) → List Token → Result (X × Bor (List Token)) Fault → Type 0
Begins spelled ts (Ok p) = ts ≡ spelled p.0 ++ p.1.now
Begins spelled ts (Err e) = Expects e (Foreign spelled ts)

-- the list that the tokens begin with, and what follows it; or they begin with no list
abbrev pub BeginsList : {X : Type 0} → (X → List Token) → List Token → Result (Vec X Global × Bor (List Token)) Fault → Type 0
BeginsList spelled ts (Ok p) = ts ≡ spelled_list spelled (vec_items p.0) ++ p.1.now
BeginsList spelled ts (Err e) = Expects e (Foreign (spelled_list spelled) ts)
