use Rattle.std.proofs.Common.{vec_items, rules}
use Rattle.std.proofs.lemmas.Result.{err_from_is_err_and}
use Rattle.script.proofs.Reading.{goes_further, ends, no_separator}
use Rattle.script.proofs.Refusing.{lacks}
use Rattle.script.proofs.lists.read_list.Goals as goal

pub returns-in-Some-after : goal.returns-in-Some-after
returns-in-Some-after g c =
    rw c.in_ok-push.ensures.items
    (ends g.T.Item.spelled g.T.Item.apart c.args.tokens.now c.loop-items.rest.now c.in_ok-item.more.now c.in-Some-after.behind.now (vec_items c.loop-items.items) c.in_ok-item.item c.loop-items.invariant c.in_ok-item.ensures c.in-Some-after.ensures)

pub returns-in_err-rest-2 : goal.returns-in_err-rest-2
returns-in_err-rest-2 g c =
    let p = err_from_is_err_and c.from_residual-in_err-rest-2.result c.from_residual-in_err-rest-2.ensures.1 in
    rw (p.1, p.2)
    (lacks _ _ _ _ c.in_err-rest-2.ensures.value
    (no_separator g.T.Item.spelled g.T.Item.apart c.args.tokens.now c.loop-items.rest.now c.in_ok-item.more.now (vec_items c.loop-items.items) c.in_ok-item.item c.loop-items.invariant c.in_ok-item.ensures c.in_default-after.ensures)
    c.after-in-loop-items-2.ensures)

pub loop-items-preserved : goal.loop-items-preserved
loop-items-preserved g c =
    rw c.in_ok-push.ensures.items
    (goes_further g.T.Item.spelled g.T.Item.apart c.args.tokens.now c.loop-items.rest.now c.in_ok-item.more.now c.in_ok-rest-2.rest.now (vec_items c.loop-items.items) c.in_ok-item.item c.loop-items.invariant c.in_ok-item.ensures (search rules))
