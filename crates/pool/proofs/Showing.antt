-- What a view of a memory shows. Assumes nothing.
use Rattle.std.proofs.Common.{◌≡◌, ◌≤◌, true, List, length, sym, ap, ◌∙◌, arith}
use Rattle.std.proofs.lemmas.List.{length-take-le}
use Rattle.places.specs.declared.record.TypeRecord.{TypeRecord}
use Rattle.types.specs.declared.view.View.{View}
use Rattle.types.specs.Trees.{tree}
use Rattle.types.specs.Facts.{Sound, Apart}
use Rattle.types.proofs.Fitting.{sound-take}
use Rattle.pool.proofs.Places.{apart_take}
use Rattle.types.specs.Views.{records}
use Rattle.types.proofs.Meanings.{tree-take}
use Rattle.pool.specs.declared.store.Counts.{Counts}
use Rattle.pool.specs.declared.store.Memory.{Memory}
use Rattle.pool.specs.Slots.{live}
use Rattle.pool.specs.Held.{vouches}
use Rattle.pool.specs.Steps.{Shows}
use Rattle.pool.proofs.Vouched.{vouch}

-- the live types of counts that are vouched for
pub shows : (m : Memory) (c : Counts) (v : View) → vouches m c ≡ true → records v ≡ live m.types c.types → v.labels ≡ m.labels.high → Shows m c v
shows m c v h e l =
    let w = vouch m c h in
    let len : c.types ≤ length m.types.places.now = omega (arith, w.types, m.types.room) in
    record { labels = l ∙ sym w.labels; types = ap length e ∙ length-take-le c.types m.types.places.now len; value = λ n lt. ap (λ (rs : List TypeRecord). tree rs n) e ∙ tree-take m.types.places.now c.types n len lt }

pub live_sound : (m : Memory) (c : Counts) → vouches m c ≡ true → Sound m.labels.high (live m.types c.types) (length (live m.types c.types))
live_sound m c v = sound-take m.labels.high m.types.places.now m.types.high c.types m.types_sound (vouch m c v).types (omega (arith, m.types.room))

pub live_apart : (m : Memory) (c : Counts) → vouches m c ≡ true → Apart (live m.types c.types) (length (live m.types c.types))
live_apart m c v = apart_take m.types.places.now m.types.high c.types m.types_apart (vouch m c v).types (omega (arith, m.types.room))
