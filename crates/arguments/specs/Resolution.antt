-- What is promised of a call's resolution. Assumes nothing.
use Rattle.std.specs.Prelude.{◌≡◌, ℕ, List, Option}
use Rattle.arguments.specs.declared.written.Argument.{Argument}
use Rattle.arguments.specs.declared.written.ArgumentName.{ArgumentName}
use Rattle.arguments.specs.Orders.{Orderless}
use Rattle.arguments.specs.Places.{Outcome, resolves}
use Rattle.arguments.specs.Standing.{Exactly}

-- the outcome is the definition's; every argument stands where it belongs, or the refusal is the first that is true, and no other outcome is so;
-- another order of the named arguments changes nothing
pub record Resolution (params : List (List ℕ)) (text : List ℕ) (args : List Argument) (names : List (Option ArgumentName)) (o : Outcome) : Type 0 where
  pub value : o ≡ resolves params text args names
  pub stands : Exactly params text args names o
  pub only : (q : Outcome) → Exactly params text args names q → q ≡ o
  pub alike : Orderless params text args names o
