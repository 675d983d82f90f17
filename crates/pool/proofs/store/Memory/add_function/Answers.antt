use Rattle.std.proofs.Common.{refl}
use Rattle.pool.proofs.Rowed.{rising_pushed, function_add}
use Rattle.pool.proofs.Vouched.{vouch}
use Rattle.pool.proofs.store.Memory.add_function.Goals as goal

pub invariant_of-self-clause-functions_rising : goal.invariant_of-self-clause-functions_rising
invariant_of-self-clause-functions_rising c = rising_pushed c.push.result c.push.ensures c.args.self.now.functions_rising (rw c.new-row.ensures.types (vouch c.args.self.now c.args.counts.now c.in_ok-check.ensures.well.vouched).functions)

pub returns : goal.returns
returns c = rw (← c.new-row.ensures.content) (function_add c.args.self.now _ c.args.counts.now c.push.new.count c.new-row.result c.push.result c.in_ok-check.ensures.well.vouched c.new-row.ensures.types c.push.ensures refl refl refl)
