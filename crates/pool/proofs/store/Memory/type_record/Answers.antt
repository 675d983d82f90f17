use Rattle.std.proofs.Common.{sym, ap, ◌∙◌}
use Rattle.std.specs.List.{slice_get}
use Rattle.pool.proofs.Vouched.{vouch}
use Rattle.pool.proofs.Typed.{type_read}
use Rattle.pool.proofs.store.Memory.type_record.Goals as goal

pub returns-clause-value : goal.returns-clause-value
returns-clause-value c =
    let m = c.args.self.now in
    let k = c.args.counts.now in
    type_read m k c.args.n c.in_ok-record.record.now (vouch m k c.in_ok-check.ensures.well.vouched) (ap (λ rs. slice_get rs c.args.n) (sym c.live.ensures) ∙ c.in_ok-record.ensures.1)
