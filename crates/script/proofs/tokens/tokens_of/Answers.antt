use Rattle.std.proofs.lemmas.Result.{err_from_is_err_and}
use Rattle.script.specs.Tokens.{run}
use Rattle.script.proofs.Runs.{turn, whole, broken}
use Rattle.script.proofs.tokens.tokens_of.Goals as goal

pub loop-place-init : goal.loop-place-init
unfolding run
loop-place-init c = rw c.new-2.ensures.items

pub returns-in_err-push : goal.returns-in_err-push
returns-in_err-push c =
    let p = err_from_is_err_and c.from_residual.result c.from_residual.ensures.1 in
    let h = broken c.args.line.now c.loop-place.place _ c.from_residual.result c.in_err-push.field-0.0 _ p.1 p.2 c.loop-place-test.true c.loop-place.invariant c.in_err-push.ensures in
    record { cases = h.0; refused = h.1 }

pub loop-place-preserved : goal.loop-place-preserved
loop-place-preserved c = turn c.args.line.now c.loop-place.place _ _ c.loop-place-test.true c.in_ok-push.ensures c.loop-place.invariant

pub returns : goal.returns
returns c =
    let h = whole c.args.line.now c.loop-place.place _ c.finish.result c.loop-place-test.false c.loop-place.invariant c.finish.ensures in
    record { cases = h.0; refused = h.1 }
