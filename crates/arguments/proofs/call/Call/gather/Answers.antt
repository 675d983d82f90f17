use Rattle.std.proofs.Common.{◌∙◌, arith, rules}
use Rattle.std.proofs.lemmas.Grind.{common_steps}
use Rattle.std.proofs.lemmas.Result.{err_from_is_err_and}
use Rattle.arguments.proofs.Assigning.{kept, missing, gathered_all}
use Rattle.arguments.proofs.Formed.{few}
use Rattle.arguments.proofs.call.Call.gather.Goals as goal

pub loop-k-preserved : goal.loop-k-preserved
loop-k-preserved c =
    let room = few _ _ _ c.args.self.well_formed in
    let more = c.push.ensures ∙ kept c.args.places.now c.args.self.args.now c.loop-k.items c.in_ok-argument_at.field-0 _ room (omega (arith, c.loop-k.invariant.count, c.loop-k-test.true)) in
    rw more (grind (arith, common_steps))

pub returns-in_err-argument_at-clause-value : goal.returns-in_err-argument_at-clause-value
returns-in_err-argument_at-clause-value c =
    let p = err_from_is_err_and c.from_residual.result c.from_residual.ensures.1 in
    rw (p.1, p.2) (missing c.args.places.now c.args.self.args.now c.loop-k.items c.loop-k.k _ (search rules) c.loop-k.invariant.stand c.in_err-argument_at.ensures)

pub returns-clause-value : goal.returns-clause-value
returns-clause-value c = gathered_all c.args.places.now c.args.self.args.now c.loop-k.items (omega arith) (λ j l. c.loop-k.invariant.stand j (omega arith))
