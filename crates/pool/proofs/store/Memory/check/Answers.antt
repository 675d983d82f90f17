use Rattle.std.proofs.Common.{sym}
use Rattle.pool.proofs.Vouched.{vouch, well}
use Rattle.pool.proofs.store.Memory.check.Goals as goal

pub returns-then-vouches-clause-well : goal.returns-then-vouches-clause-well
returns-then-vouches-clause-well c = well c.args.self.now c.args.counts.now (vouch c.args.self.now c.args.counts.now (sym c.if-vouches.ensures))
