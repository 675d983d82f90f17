use Rattle.std.proofs.Common.{refl, arith}
use Rattle.types.specs.Facts.{Sound}
use Rattle.types.proofs.Fitting.{sound-wider}
use Rattle.pool.specs.Facts.{Begun}
use Rattle.pool.proofs.Vouched.{vouch}
use Rattle.pool.proofs.Pushed.{interned, apart_interned}
use Rattle.pool.proofs.Labelled.{spelled-ok, begun_more, label_added}
use Rattle.pool.proofs.store.Memory.add_label.Goals as goal

pub invariant_of-self : goal.invariant_of-self
invariant_of-self c =
    let m = c.args.self.now in
    let u = vouch m c.args.counts.now c.in_ok-check.ensures.well.vouched in
    let i = c.intern.ensures in
    record {
      labels_begun = interned Begun m.labels _ _ _ _ _ c.intern.result i m.labels_begun (λ none room. begun_more m.labels.places.now m.labels.high _ c.in_ok-label.label m.labels_begun u.begun (omega (arith, u.labels)));
      labels_apart = apart_interned m.labels _ _ _ _ _ c.intern.result i m.labels_apart (omega (arith, u.labels));
      types_sound = interned (λ ls h. Sound h m.types.places.now m.types.high) m.labels _ _ _ _ _ c.intern.result i m.types_sound (λ none room. sound-wider m.labels.high _ m.types.places.now m.types.high (omega (arith, u.labels)) m.types_sound);
      types_apart = m.types_apart;
      functions_rising = m.functions_rising;
      entries_rising = m.entries_rising;
    }

pub returns : goal.returns
returns c = rw (← spelled-ok c.in_ok-label.label c.args.text.now c.in_ok-label.ensures) (label_added c.args.self.now _ c.args.counts.now c.intern.new.count c.in_ok-label.label c.intern.result c.in_ok-check.ensures.well.vouched c.intern.ensures refl refl refl)
