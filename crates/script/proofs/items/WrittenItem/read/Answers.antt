use Rattle.std.proofs.lemmas.Result.{err_from_is_err_and}
use Rattle.script.proofs.Refusing.{lacks, no_argument}
use Rattle.script.proofs.items.WrittenItem.read.Goals as goal

pub returns-in_err-name : goal.returns-in_err-name
returns-in_err-name c =
    let p = err_from_is_err_and c.from_residual.result c.from_residual.ensures.1 in
    rw (p.1, p.2) (lacks _ _ _ _ c.in_err-name.ensures.value (no_argument c.args.tokens.now c.in_default.ensures) c.split_text.ensures)
