use Rattle.std.proofs.Common.{rules}
use Rattle.arguments.proofs.Whole.{clash_so, gathered_so}
use Rattle.arguments.proofs.call.Call.reorder_named_arguments.Goals as goal

pub returns-in_err-assign_places-clause-value : goal.returns-in_err-assign_places-clause-value
returns-in_err-assign_places-clause-value c = search (rules, clash_so)

pub returns : goal.returns
returns c = search (rules, gathered_so)
