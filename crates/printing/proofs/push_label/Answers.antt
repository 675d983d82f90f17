use Rattle.std.proofs.Common.{string_bytes, arith}
use Rattle.printing.proofs.ReadBack.{label_reads}
use Rattle.printing.proofs.push_label.Goals as goal

pub returns-then-is_word-clause-reads : goal.returns-then-is_word-clause-reads
returns-then-is_word-clause-reads c =
    label_reads c.push_word.result c.args.label.now (string_bytes c.args.out.now) (string_bytes c.push_word.new.out) (λ i. omega (arith, c.type_inv.label i)) (rw (← c.if-is_word.ensures) c.push_word.ensures)
