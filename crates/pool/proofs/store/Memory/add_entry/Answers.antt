use Rattle.std.proofs.Common.{refl}
use Rattle.pool.proofs.Rowed.{rising_pushed, entry_add}
use Rattle.pool.proofs.Vouched.{vouch}
use Rattle.pool.proofs.store.Memory.add_entry.Goals as goal

pub invariant_of-self-clause-entries_rising : goal.invariant_of-self-clause-entries_rising
invariant_of-self-clause-entries_rising c = rising_pushed c.push.result c.push.ensures c.args.self.now.entries_rising (rw c.new-row.ensures.types (vouch c.args.self.now c.args.counts.now c.in_ok-check.ensures.well.vouched).entries)

pub returns : goal.returns
returns c = rw (← c.new-row.ensures.content) (entry_add c.args.self.now _ c.args.counts.now c.push.new.count c.new-row.result c.push.result c.in_ok-check.ensures.well.vouched c.new-row.ensures.types c.push.ensures refl refl refl)
