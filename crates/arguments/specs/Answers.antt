-- What the code's answers stand for. Assumes nothing.
use Rattle.std.specs.Prelude.{List, Ok, Err, Result}
use Rattle.terms.specs.declared.Refusal.{Refusal}
use Rattle.arguments.specs.declared.written.Argument.{Argument}
use Rattle.arguments.specs.declared.resolved.Resolved.{Resolved}
use Rattle.arguments.specs.Places.{Outcome}

-- the arguments by place
abbrev pub listed : Resolved → List Argument
listed r = r.items

-- the answer by place, or the refusal
abbrev pub outcome : Result Resolved Refusal → Outcome
outcome (Ok r) = Ok (listed r)
outcome (Err e) = Err e

-- the list that was put together, or the refusal
abbrev pub put : {A : Type 0} → Result A Refusal → List Argument → Outcome
put (Ok _) items = Ok items
put (Err e) items = Err e
