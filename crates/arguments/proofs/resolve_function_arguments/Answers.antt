use Rattle.std.proofs.Common.{rules}
use Rattle.arguments.proofs.Whole.{lawful}
use Rattle.arguments.proofs.resolve_function_arguments.Goals as goal

pub returns-in_err-call : goal.returns-in_err-call
returns-in_err-call c = lawful _ _ _ _ _ (search rules)

-- what the call is made of is what was handed in
pub returns-in_err-resolve : goal.returns-in_err-resolve
returns-in_err-resolve c =
    let p = c.in_ok-call.ensures.parts in
    rw (← p.0, ← p.1, ← p.2, ← p.3) (search rules)

pub returns : goal.returns
returns c =
    let p = c.in_ok-call.ensures.parts in
    rw (← p.0, ← p.1, ← p.2, ← p.3) (search rules)
