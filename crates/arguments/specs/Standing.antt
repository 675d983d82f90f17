-- Where arguments stand, and why a call is refused, in the subject's words. Assumes nothing.
use Rattle.std.specs.Prelude.{◌≡◌, ℕ, ◌+◌, ◌<◌, ◌≤◌, true, false, cond, not, ◌⊎◌, List, [], map, length, Some, None, MatchBool, Option, MatchResult, ◌==◌, ◌≢◌, slice_index_or}
use Rattle.std.specs.Char.{to_ascii_lowercase}
use Rattle.terms.specs.Limits.{most_arguments}
use Rattle.terms.specs.Refusals.{number}
use Rattle.terms.specs.declared.Refusal.{Refusal}
use Rattle.terms.specs.declared.Reason.{Reason}
use Rattle.terms.specs.declared.Reason.TheVariants.{MalformedCall, PositionalAfterNamed, TooManyPositional, UnknownParameter, ParameterGivenTwice, MissingParameter}
use Rattle.arguments.specs.declared.written.Argument.{Argument}
use Rattle.arguments.specs.declared.written.ArgumentName.{ArgumentName}
use Rattle.arguments.specs.First.{count_below}
use Rattle.arguments.specs.Names.{Name}
use Rattle.arguments.specs.Places.{Outcome, blank, named}
use Rattle.arguments.specs.View.{spell}

-- a quoted name is the parameter's own, any other but for the case of ASCII letters
abbrev pub Fits : Name → List ℕ → Type 0
Fits n p = MatchBool n.quoted (n.bytes ≡ p) (map to_ascii_lowercase n.bytes ≡ map to_ascii_lowercase p)

-- parameter k is the first that the name fits
pub record FirstFit (params : List (List ℕ)) (n : Name) (k : ℕ) : Type 0 where
  pub there : k < length params
  pub fits : Fits n (slice_index_or params k [])
  pub before : (j : ℕ) → j < k → Fits n (slice_index_or params j []) → ⊥

-- an argument that is written at i belongs at k: without a name there, with one at its first matching parameter
abbrev pub Belongs : List (List ℕ) → ℕ → Option Name → ℕ → Type 0
Belongs params i None k = k ≡ i
Belongs params i (Some n) k = FirstFit params n k

module _ (params : List (List ℕ)) (names : List (Option Name)) where
  -- the argument at i belongs at k
  abbrev pub Place : ℕ → ℕ → Type 0
  Place i k = (i < length names) × Belongs params i (slice_index_or names i None) k

  -- each argument written stands exactly once in the answer, where it belongs, and the answer has no other
  pub record Stands (args answer : List Argument) : Type 0 where
    pub count : length answer ≡ length args
    pub each : (i : ℕ) → i < length args → (k : ℕ) × (k < length answer) × Place i k × (slice_index_or answer k blank ≡ slice_index_or args i blank)
    pub once : (i j k : ℕ) → Place i k → Place j k → i ≡ j
    pub other : (k : ℕ) → k < length answer → (i : ℕ) × (i < length args) × Place i k × (slice_index_or answer k blank ≡ slice_index_or args i blank)

-- a name that is given lies outside its text
abbrev pub Outside : List ℕ → Option ArgumentName → Type 0
Outside text None = ⊥
Outside text (Some n) = length text < n.start + n.len

-- what a refusal says of the call, by its reason and its place
pub data Says (params : List (List ℕ)) (text : List ℕ) (args : List Argument) (names : List (Option ArgumentName)) : Reason → ℕ → Type 0 where
  too_many : most_arguments < length args → Says params text args names MalformedCall 0
  counts_differ : (length args ≢ length names) → Says params text args names MalformedCall 0
  name_outside : (i : ℕ) → i < length names → Outside text (slice_index_or names i None) → Says params text args names MalformedCall 0
  positional_late : (p j : ℕ) → p < length names → named names p ≡ false → j < p → named names j ≡ true → Says params text args names PositionalAfterNamed p
  positional_many : (j : ℕ) → j < length names → named names j ≡ true → length params < count_below (λ i. not (named names i)) (length names) → Says params text args names TooManyPositional 0
  unknown : (p : ℕ) → p < length names → ((k : ℕ) → Place params (spell text names) p k → ⊥) → Says params text args names UnknownParameter p
  twice : (p j k : ℕ) → j < p → Place params (spell text names) j k → Place params (spell text names) p k → Says params text args names ParameterGivenTwice p
  missing : (p : ℕ) → p < length names → ((i : ℕ) → Place params (spell text names) i p → ⊥) → Says params text args names MissingParameter p

-- refusals go by their number, but 25 and 26 argument by argument
abbrev pub rank : Reason → ℕ
rank r = cond (number r == number ParameterGivenTwice) (number UnknownParameter) (number r)

-- a refusal comes before another, or is at no later place
abbrev pub Leads : Reason → ℕ → Reason → ℕ → Type 0
Leads r p q k = (rank r < rank q) ⊎ ((rank r ≡ rank q) × (p ≤ k))

-- a refusal is true, and leads all that are true
pub record FirstTrue (params : List (List ℕ)) (text : List ℕ) (args : List Argument) (names : List (Option ArgumentName)) (e : Refusal) : Type 0 where
  pub so : Says params text args names e.reason e.place
  pub leads : (q : Reason) (k : ℕ) → Says params text args names q k → Leads e.reason e.place q k

-- accepted exactly where no refusal would be true, and then every argument stands where it belongs; else refused by the first that is true
abbrev pub Exactly : List (List ℕ) → List ℕ → List Argument → List (Option ArgumentName) → Outcome → Type 0
Exactly params text args names o = MatchResult o
    (λ answer. Stands params (spell text names) args answer × ((r : Reason) (p : ℕ) → Says params text args names r p → ⊥))
    (FirstTrue params text args names)
