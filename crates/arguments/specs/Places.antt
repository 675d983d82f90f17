-- Where the arguments of a call go, and when it is refused instead. Assumes nothing.
use Rattle.std.specs.Prelude.{ℕ, ◌+◌, Bool, false, cond, not, ◌&&◌, ◌||◌, List, map, length, is_some, Some, None, Ok, Err, Option, Result, ◌==◌, nat_lt, slice_index_or}
use Rattle.std.specs.List.{range_with_len}
use Rattle.std.specs.Option.{unwrap_or}
use Rattle.terms.specs.Refusals.{refusal}
use Rattle.terms.specs.Limits.{most_arguments}
use Rattle.terms.specs.declared.Reason.TheVariants.{MalformedCall, PositionalAfterNamed, TooManyPositional, UnknownParameter, ParameterGivenTwice, MissingParameter}
use Rattle.terms.specs.declared.Refusal.{Refusal}
use Rattle.arguments.specs.declared.written.Argument.{Argument}
use Rattle.arguments.specs.declared.written.ArgumentName.{ArgumentName}
use Rattle.arguments.specs.First.{first, first_below, any_below, count_below, when}
use Rattle.arguments.specs.Names.{Name, first_match}
use Rattle.arguments.specs.View.{spell}

-- the answer of a call, or its refusal
abbrev pub Outcome : Type 0
Outcome = Result (List Argument) Refusal

-- what stands where nothing was written
abbrev pub blank : Argument
blank = record { id = 0; type_number = 0 }

-- the refusal where there is one, else the outcome
abbrev pub unless : Option Refusal → Outcome → Outcome
unless None o = o
unless (Some r) o = Err r

-- an argument is written with a name at i
abbrev pub named : {N : Type 0} → List (Option N) → ℕ → Bool
named names i = is_some (slice_index_or names i None)

-- the name reaches past its text
abbrev pub outside : List ℕ → Option ArgumentName → Bool
outside text None = false
outside text (Some n) = nat_lt (length text) (n.start + n.len)

-- 21: too many arguments, more or fewer names than arguments, or a name outside its text
abbrev pub malformed : List ℕ → List Argument → List (Option ArgumentName) → Option Refusal
malformed text args names = when
    (nat_lt most_arguments (length args) || (not (length args == length names) || any_below (λ i. outside text (slice_index_or names i None)) (length names)))
    (refusal MalformedCall 0)

-- 23: the argument at i has no name, and one before it has
abbrev pub late : {N : Type 0} → List (Option N) → ℕ → Option Refusal
late names i = when (not (named names i) && any_below (named names) i) (refusal PositionalAfterNamed i)

-- 24: more arguments without a name than parameters
abbrev pub crowded : List (List ℕ) → List (Option Name) → Option Refusal
crowded params names = when (nat_lt (length params) (count_below (λ i. not (named names i)) (length names))) (refusal TooManyPositional 0)

-- an argument that is written at i goes there, or to the first parameter that its name matches
abbrev pub goes : List (List ℕ) → ℕ → Option Name → Option ℕ
goes params i None = Some i
goes params i (Some n) = first_match n params

-- it goes to place k
abbrev pub goes_to : Option ℕ → ℕ → Bool
goes_to None k = false
goes_to (Some p) k = p == k

module _ (params : List (List ℕ)) (names : List (Option Name)) where
  -- the place of the argument at i
  abbrev pub place : ℕ → Option ℕ
  place i = goes params i (slice_index_or names i None)

  -- the first argument before the n-th that goes to place k
  abbrev pub giver : ℕ → ℕ → Option ℕ
  giver n k = first_below (λ i. goes_to (place i) k) n

  -- 25, 26: the argument at i goes nowhere, or where an earlier one goes
  abbrev pub clash_of : ℕ → Option ℕ → Option Refusal
  clash_of i None = Some (refusal UnknownParameter i)
  clash_of i (Some k) = when (is_some (giver i k)) (refusal ParameterGivenTwice i)

  -- what the argument at i clashes by, if it does
  abbrev pub clash : ℕ → Option Refusal
  clash i = clash_of i (place i)

  -- 27: no argument goes to place k
  abbrev pub empty : ℕ → Option Refusal
  empty k = when (not (is_some (giver (length names) k))) (refusal MissingParameter k)

  -- what stands at place k
  abbrev pub standing : List Argument → ℕ → Argument
  standing args k = slice_index_or args (unwrap_or (giver (length names) k) 0) blank

  -- the arguments by place
  abbrev pub by_place : List Argument → List Argument
  by_place args = map (standing args) (range_with_len 0 (length args))

  -- the outcome where an argument has a name: the refusals in their order, 25 and 26 argument by argument
  abbrev pub with_names : List Argument → Outcome
  with_names args =
      unless (crowded params names)
      (unless (first clash (length names))
      (unless (first empty (length names))
      (Ok (by_place args))))

-- with no name arguments stay as written, however many the parameters
abbrev pub settled : List (List ℕ) → List (Option Name) → List Argument → Outcome
settled params names args = cond (any_below (named names) (length names)) (unless (first (late names) (length names)) (with_names params names args)) (Ok args)

-- the outcome of a call
abbrev pub resolves : List (List ℕ) → List ℕ → List Argument → List (Option ArgumentName) → Outcome
resolves params text args names = unless (malformed text args names) (settled params (spell text names) args)
