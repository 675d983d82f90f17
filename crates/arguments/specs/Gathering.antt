-- What the inner loops compute, by the numbers of the places alone. Assumes nothing.
use Rattle.std.specs.Prelude.{◌≡◌, ℕ, ◌<◌, cond, not, List, map, length, get_or, is_some, Some, None, Ok, Err, Option, Result, nat_eq, slice_index, slice_index_or}
use Rattle.std.specs.List.{range_with_len}
use Rattle.std.specs.Option.{unwrap_or}
use Rattle.terms.specs.Refusals.{refusal}
use Rattle.terms.specs.Limits.{most_arguments}
use Rattle.terms.specs.declared.Reason.TheVariants.{UnknownParameter, ParameterGivenTwice, MissingParameter}
use Rattle.terms.specs.declared.Refusal.{Refusal}
use Rattle.arguments.specs.declared.written.Argument.{Argument}
use Rattle.arguments.specs.First.{first, first_below, when}
use Rattle.arguments.specs.Names.{Name}
use Rattle.arguments.specs.Places.{Outcome, unless, blank, place}

-- ps has the place of each of the first n arguments
pub record Assigned (params : List (List ℕ)) (names : List (Option Name)) (n : ℕ) (ps : List ℕ) : Type 0 where
  pub size : length ps ≡ most_arguments
  pub each : (i : ℕ) → i < n → place params names i ≡ Some (slice_index ps i)

-- the first argument before the n-th that has place k
abbrev pub giver_in : List ℕ → ℕ → ℕ → Option ℕ
giver_in places n k = first_below (λ i. nat_eq (slice_index places i) k) n

-- the place that the argument at i takes: one that it has, and none before it
abbrev pub claimed : List ℕ → ℕ → Option ℕ → Result ℕ Refusal
claimed places i None = Err (refusal UnknownParameter i)
claimed places i (Some k) = cond (is_some (giver_in places i k)) (Err (refusal ParameterGivenTwice i)) (Ok k)

-- what stands at place k, given who has it
abbrev pub stands_at : List Argument → ℕ → Option ℕ → Result Argument Refusal
stands_at args k None = Err (refusal MissingParameter k)
stands_at args k (Some i) = Ok (slice_index_or args i blank)

-- no argument has place k
abbrev pub empty_in : List ℕ → ℕ → ℕ → Option Refusal
empty_in places n k = when (not (is_some (giver_in places n k))) (refusal MissingParameter k)

-- the arguments by place, or the first place that is empty
abbrev pub gathered : List ℕ → List Argument → Outcome
gathered places args =
    unless (first (empty_in places (length args)) (length args))
    (Ok (map (λ k. get_or args (unwrap_or (giver_in places (length args) k) 0) blank) (range_with_len 0 (length args))))
