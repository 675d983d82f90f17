-- Worked cases of the definition, one to a row. Assumes nothing.
use Rattle.std.specs.Prelude.{◌≡◌, ℕ, Bool, true, false, List, [], ◌∷◌, map, Some, None, Ok, Err, codes, Option}
use Rattle.terms.specs.Refusals.{refusal}
use Rattle.terms.specs.declared.Reason.TheVariants.{PositionalAfterNamed, ParameterGivenTwice, MissingParameter}
use Rattle.arguments.specs.declared.written.Argument.{Argument}
use Rattle.arguments.specs.declared.written.ArgumentName.{ArgumentName}
use Rattle.arguments.specs.Places.{Outcome, resolves}

-- the text that the names of the cases stand in
abbrev pub text : List ℕ
text = codes "abcA"

-- the name at a place of it
abbrev pub name : ℕ → Bool → Option ArgumentName
name k quoted = Some (record { start = k; len = 1; is_quoted = quoted })

-- the names of the cases, by their letter
abbrev pub a : Option ArgumentName
a = name 0 false

abbrev pub b : Option ArgumentName
b = name 1 false

abbrev pub c : Option ArgumentName
c = name 2 false

abbrev pub upper_a : Option ArgumentName
upper_a = name 3 false

-- the same letter in quotes
abbrev pub quoted_upper_a : Option ArgumentName
quoted_upper_a = name 3 true

-- no name
abbrev pub positional : Option ArgumentName
positional = None

-- arguments by their ids
abbrev pub ids : List ℕ → List Argument
ids xs = map (λ (x : ℕ). record { id = x; type_number = 0 }) xs

-- the parameters of the cases
abbrev pub abc : List (List ℕ)
abc = codes "a" ∷ codes "b" ∷ codes "c" ∷ []

abbrev pub both_cases : List (List ℕ)
both_cases = codes "a" ∷ codes "A" ∷ []

-- a call, and what comes of it
pub record Row : Type 0 where
  pub params : List (List ℕ)
  pub args : List ℕ
  pub names : List (Option ArgumentName)
  pub outcome : Outcome

-- a row
abbrev pub row : List (List ℕ) → List ℕ → List (Option ArgumentName) → Outcome → Row
row ps xs ns o = record { params = ps; args = xs; names = ns; outcome = o }

-- the worked cases
abbrev pub table : List Row
table =
    row abc (10 ∷ 30 ∷ 20 ∷ []) (positional ∷ c ∷ b ∷ []) (Ok (ids (10 ∷ 20 ∷ 30 ∷ [])))
    ∷ row abc (1 ∷ []) (b ∷ []) (Err (refusal MissingParameter 0))
    ∷ row abc (1 ∷ 2 ∷ []) (positional ∷ a ∷ []) (Err (refusal ParameterGivenTwice 1))
    ∷ row abc (1 ∷ 2 ∷ []) (a ∷ positional ∷ []) (Err (refusal PositionalAfterNamed 1))
    ∷ row both_cases (1 ∷ []) (upper_a ∷ []) (Ok (ids (1 ∷ [])))
    ∷ row both_cases (1 ∷ 2 ∷ []) (quoted_upper_a ∷ a ∷ []) (Ok (ids (2 ∷ 1 ∷ [])))
    ∷ []

-- the definition gives what the row says
abbrev pub Holds : Row → Type 0
Holds r = resolves r.params text (ids r.args) r.names ≡ r.outcome
