use Rattle.std.proofs.Common.{arith}
use Rattle.printing.proofs.ReadBack.{label-back}
use Rattle.printing.proofs.Label.new.Goals as goal

pub returns-clause-reads : goal.returns-clause-reads
returns-clause-reads c = label-back c.args.label.now (λ i. omega (arith, c.type_inv.label i))
