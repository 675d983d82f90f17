-- Where the tokens do not go on as they should. Assumes nothing.
use Rattle.std.proofs.Common.{◌≡◌, ℕ, List, [], ◌∷◌, ◌++◌, Some, None, Err, Option, MatchOption, subst}
use Rattle.std.specs.Option.{ok_or}
use Rattle.arguments.specs.declared.written.ArgumentName.{ArgumentName}
use Rattle.script.specs.declared.fault.Fault.{Fault}
use Rattle.script.specs.declared.fault.Fault.TheVariants.{Expected}
use Rattle.script.specs.declared.fault.Part.{Part}
use Rattle.script.specs.declared.tokens.Token.{Token}
use Rattle.script.specs.declared.tokens.Token.TheVariants.{Number, Arrow}
use Rattle.script.specs.Seen.{Expects}
use Rattle.script.specs.Spelling.{text_of, spelled_text, spelled_name, spelled_argument, spelled_id, Foreign}

-- a fault about a part that is not there says why it is not
pub lacks : {A P R : Type 0} (Q : A → Type 0) (o : Option A) (what : Part) (e : Fault) → Err e ≡ ok_or o (Expected what) → (P → R) → MatchOption o P Q → Expects e R
lacks {R = R} Q None what e i f p = let q : Expected what ≡ e = cc in subst (λ x. Expects x R) q (f p)
lacks Q (Some a) what e i f p = absurd cc

argument-go : (ts : List Token) → Foreign spelled_id ts → Foreign spelled_text ts → (m : Option ArgumentName) (i : ℕ) (rest : List Token) → ts ≡ spelled_name m (Number i ∷ []) ++ rest → ⊥
argument-go ts n t None i rest e = n i rest e
argument-go ts n t (Some m) i rest e = t (text_of m) (Arrow ∷ Number i ∷ rest) e

-- an argument begins with a number or a text
pub no_argument : (ts : List Token) → Foreign spelled_id ts → Foreign spelled_text ts → Foreign spelled_argument ts
no_argument ts n t w rest e = argument-go ts n t w.name w.id rest e
