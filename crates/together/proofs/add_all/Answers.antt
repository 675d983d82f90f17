use Rattle.std.proofs.Common.{get_or, ◌∙◌, inr, arith, rules}
use Rattle.std.proofs.lemmas.Option.{slice_get-get_or}
use Rattle.std.proofs.lemmas.Result.{err_from_is_err_and}
use Rattle.places.specs.Records.{blank}
use Rattle.together.proofs.Adding.{all_more, kept, dropped, short_of}
use Rattle.together.proofs.add_all.Goals as goal

pub loop-r-preserved : goal.loop-r-preserved
loop-r-preserved c =
    let rs = c.args.records.now in
    let l = c.loop-r.invariant in
    let a = c.in_ok-add_type.ensures in
    let t = all_more rs _ c.in_ok-add_type.field-0 (slice_get-get_or rs c.loop-r.r-index blank c.loop-r-test.true) l.grows l.there a.added.refused a.added.done in
    record { grows = t.0; there = t.1; start = a.start ∙ l.start; lent = a.lent ∙ l.lent }

pub returns-in_err-add_type-clause-kept : goal.returns-in_err-add_type-clause-kept
returns-in_err-add_type-clause-kept c =
    let p = err_from_is_err_and c.from_residual-in_err-add_type.result c.from_residual-in_err-add_type.ensures.1 in
    let rs = c.args.records.now in
    let l = c.loop-r.invariant in
    let a = c.in_err-add_type.ensures.added in
    rw (p.1, p.2) (inr (dropped rs _ c.in_err-add_type.field-0.0 _ (slice_get-get_or rs c.loop-r.r-index blank c.loop-r-test.true) a.done.1 (search rules) l.grows l.there a.refused))

pub returns-in_err-add_type-clause-room : goal.returns-in_err-add_type-clause-room
returns-in_err-add_type-clause-room c =
    let p = err_from_is_err_and c.from_residual-in_err-add_type.result c.from_residual-in_err-add_type.ensures.1 in
    rw (p.1, p.2) (short_of c.args.records.now (get_or c.args.records.now c.loop-r.r-index blank) c.in_err-add_type.field-0.0 c.loop-r-test.true c.loop-r.invariant.grows c.in_err-add_type.ensures.added.refused)

pub returns-clause-kept : goal.returns-clause-kept
returns-clause-kept c = kept c.args.records.now _ (omega arith) (search rules) c.loop-r.invariant.grows c.loop-r.invariant.there
