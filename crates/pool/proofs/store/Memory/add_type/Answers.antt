use Rattle.std.proofs.Common.{refl, ap, ◌∙◌, arith}
use Rattle.std.proofs.lemmas.Bool.{MatchBool-at_true}
use Rattle.std.proofs.lemmas.Result.{err_from_is_err_and}
use Rattle.terms.specs.Refusals.{plainly}
use Rattle.pool.proofs.Vouched.{vouch}
use Rattle.pool.proofs.Pushed.{apart_interned}
use Rattle.pool.proofs.Typed.{unfit-shown, unfit-leads, may_stand, sound_added, type_added}
use Rattle.pool.proofs.store.Memory.add_type.Goals as goal

pub returns-in_err-check-2 : goal.returns-in_err-check-2
returns-in_err-check-2 c =
    let v = c.in_ok-check.ensures.well.vouched in
    let p = err_from_is_err_and c.from_residual-in_err-check-2.result c.from_residual-in_err-check-2.ensures.1 in
    let shown = unfit-shown c.args.self.now c.args.counts.now c.view.result c.args.r (MatchBool-at_true _ _ v c.view.ensures) in
    rw (p.1, p.2) record { refused = unfit-leads c.args.self.now c.args.counts.now c.args.r c.in_err-check-2.field-0.0 v (c.in_err-check-2.ensures ∙ ap plainly shown); done = (refl, refl) }

pub intern-requires : goal.intern-requires
intern-requires c = (omega arith, (vouch c.args.self.now c.args.counts.now c.in_ok-check.ensures.well.vouched).types)

pub invariant_of-self : goal.invariant_of-self
invariant_of-self c =
    let m = c.args.self.now in
    let k = c.args.counts.now in
    let v = c.in_ok-check.ensures.well.vouched in
    let u = vouch m k v in
    let i = c.intern.ensures in
    record {
      labels_begun = m.labels_begun;
      labels_apart = m.labels_apart;
      types_sound = sound_added m k _ c.args.r c.intern.result _ u (may_stand m k c.view.result c.args.r (MatchBool-at_true _ _ v c.view.ensures) c.in_ok-check-2.ensures) i;
      types_apart = apart_interned m.types _ _ _ _ _ c.intern.result i m.types_apart u.types;
      functions_rising = m.functions_rising;
      entries_rising = m.entries_rising;
    }

pub returns : goal.returns
returns c =
    let v = c.in_ok-check.ensures.well.vouched in
    type_added c.args.self.now _ c.args.counts.now c.intern.new.count c.args.r c.intern.result v (may_stand c.args.self.now c.args.counts.now c.view.result c.args.r (MatchBool-at_true _ _ v c.view.ensures) c.in_ok-check-2.ensures) c.intern.ensures refl refl refl
