use Rattle.pool.proofs.Rowed.{entry_back}
use Rattle.pool.proofs.store.Memory.take_back_entry.Goals as goal

pub returns : goal.returns
returns c = entry_back c.args.self.now c.args.counts.now c.take_back.new.count c.take_back.result c.in_ok-check.ensures.well.vouched c.take_back.ensures
