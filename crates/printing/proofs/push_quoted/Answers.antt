use Rattle.std.proofs.Common.{string_bytes, arith}
use Rattle.std.proofs.lemmas.Grind.{common_steps}
use Rattle.printing.proofs.ReadBack.{quoted_reads}
use Rattle.printing.proofs.push_quoted.Goals as goal

pub returns-clause-reads : goal.returns-clause-reads
returns-clause-reads c =
    quoted_reads c.push_ascii-2.result c.args.label.now (string_bytes c.args.out.now) (string_bytes c.push_ascii-2.new.out) (λ i. omega (arith, c.type_inv.label i)) (grind (arith, common_steps))
