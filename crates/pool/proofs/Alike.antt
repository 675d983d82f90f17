-- When slots are the same, and memories. Assumes nothing.
use Rattle.std.proofs.Common.{◌≡◌, ℕ, ap}
use Rattle.std.proofs.Props.{props}
use mathlib.Core.HLevel.{is_prop→PathP}
use Rattle.types.specs.Facts.{Sound, Apart}
use Rattle.pool.specs.declared.store.Memory.{Memory}
use Rattle.pool.specs.declared.store.slots.Slots.{Slots}
use Rattle.pool.specs.Facts.{Begun, Rising}

-- as many places hold something in both, and the same
pub record SameSlots {T : Type 0} {most : ℕ} (s s' : Slots T most) : Type 0 where
  pub places : s'.places.now ≡ s.places.now
  pub high : s'.high ≡ s.high

pub same_slots : {T : Type 0} {most : ℕ} {s s' : Slots T most} → s' ≡ s → SameSlots s s'
same_slots e = record { places = ap (λ s. s.places.now) e; high = ap (λ s. s.high) e }

-- memories of the same slots are the same
pub same_memory : (m m' : Memory) → m'.labels ≡ m.labels → m'.types ≡ m.types → m'.functions ≡ m.functions → m'.entries ≡ m.entries → m' ≡ m
same_memory m m' l t f e = λ i. record {
  labels = l i;
  types = t i;
  functions = f i;
  entries = e i;
  labels_begun = is_prop→PathP (λ j. Begun (l j).places.now (l j).high) (λ j. hlevel props) m'.labels_begun m.labels_begun i;
  labels_apart = is_prop→PathP (λ j. Apart (l j).places.now (l j).high) (λ j. hlevel props) m'.labels_apart m.labels_apart i;
  types_sound = is_prop→PathP (λ j. Sound (l j).high (t j).places.now (t j).high) (λ j. hlevel props) m'.types_sound m.types_sound i;
  types_apart = is_prop→PathP (λ j. Apart (t j).places.now (t j).high) (λ j. hlevel props) m'.types_apart m.types_apart i;
  functions_rising = is_prop→PathP (λ j. Rising (f j).places.now (f j).high) (λ j. hlevel props) m'.functions_rising m.functions_rising i;
  entries_rising = is_prop→PathP (λ j. Rising (e j).places.now (e j).high) (λ j. hlevel props) m'.entries_rising m.entries_rising i;
}
