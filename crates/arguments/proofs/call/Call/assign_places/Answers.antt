use Rattle.std.proofs.Common.{rules}
use Rattle.arguments.proofs.Assigning.{not_claimed, assigned_more}
use Rattle.arguments.proofs.Firsts.{none_first}
use Rattle.arguments.proofs.call.Call.assign_places.Goals as goal

pub returns-in_err-places-clause-refused : goal.returns-in_err-places-clause-refused
returns-in_err-places-clause-refused c = search (rules, not_claimed)

pub loop-i-preserved : goal.loop-i-preserved
loop-i-preserved c = assigned_more _ _ c.loop-i.i _ c.loop-i-test.true c.loop-i.invariant.0 c.loop-i.places c.loop-i.invariant.1 (search rules) _ c.in_ok-places.ensures

pub returns-clause-refused : goal.returns-clause-refused
returns-clause-refused c = search (rules, none_first)
