use Rattle.std.proofs.Common.{vec_items, false-eqb}
use Rattle.std.proofs.lemmas.Result.{err_from_is_err_and}
use Rattle.script.proofs.Runs.{expects_more}
use Rattle.script.proofs.Naming.{no_list, no_more}
use Rattle.script.proofs.lines.read_named.Goals as goal

pub returns-in_err-items : goal.returns-in_err-items
returns-in_err-items g c =
    let p = err_from_is_err_and c.from_residual-in_err-items.result c.from_residual-in_err-items.ensures.1 in
    rw (p.1, p.2) (expects_more _ (no_list g.T.Item.spelled g.T.Item.apart _ _ c.in_ok-name.name c.in_ok-name.ensures) c.in_err-items.ensures)

pub returns-then-not-is_empty : goal.returns-then-not-is_empty
returns-then-not-is_empty g c =
    no_more g.T.Item.spelled g.T.Item.apart _ _ _ c.in_ok-name.name (vec_items c.in_ok-items.items) c.in_ok-name.ensures c.in_ok-items.ensures (false-eqb _ 0 c.if-not-is_empty.ensures)
