use Rattle.std.proofs.Common.{rules}
use Rattle.arguments.proofs.Whole.{lawful, unnamed_so, late_so, reordered_so}
use Rattle.arguments.proofs.call.Call.resolve.Goals as goal

pub returns-in_default-clause-value : goal.returns-in_default-clause-value
returns-in_default-clause-value c = lawful _ _ _ _ _ (search (rules, unnamed_so))

pub returns-in_err-validate_argument_order-clause-value : goal.returns-in_err-validate_argument_order-clause-value
returns-in_err-validate_argument_order-clause-value c = lawful _ _ _ _ _ (search (rules, late_so))

pub returns-clause-value : goal.returns-clause-value
returns-clause-value c = lawful _ _ _ _ _ (search (rules, reordered_so))
