-- What a memory vouches for. Assumes nothing.
use Rattle.std.proofs.Common.{◌≡◌, ℕ, ◌<◌, ◌≤◌, true, map, length, take, Some, refl, ap, ◌∙◌, arith}
use Rattle.std.specs.List.{slice_get}
use Rattle.std.proofs.lemmas.Grind.{common_steps}
use Rattle.std.proofs.lemmas.List.{length-take-le, take-map, take-take}
use Rattle.std.proofs.lemmas.Option.{gets, slice_get-get_or, slice_get-map}
use Rattle.std.proofs.lemmas.Bool.Decides.{nat_tests}
use Rattle.terms.specs.Limits.{first_labels}
use Rattle.places.specs.declared.stamped.Stamped.{Stamped}
use Rattle.places.specs.Labels.{spelled}
use Rattle.places.proofs.Tells.{label-tells, spelled-short}
use Rattle.types.specs.Trees.{none, tree, meanings}
use Rattle.types.proofs.Meanings.{length_meanings}
use Rattle.types.proofs.Telling.{numbers_tell, flat_at, calm_tree}
use Rattle.pool.specs.declared.store.Counts.{Counts}
use Rattle.pool.specs.declared.store.Memory.{Memory}
use Rattle.pool.specs.declared.store.slots.Slots.{Slots}
use Rattle.pool.specs.Slots.{newest}
use Rattle.pool.specs.Held.{labels_of, types_of, means, vouches}
use Rattle.pool.specs.Laws.{Well}
use Rattle.pool.proofs.Places.{nth_take, told_map}
use Rattle.pool.proofs.Stamps.{over}
use Rattle.pool.proofs.Alike.{SameSlots}

-- the first n places hold something, over at most so many types
pub record Holds {T : Type 0} {most : ℕ} (s : Slots (Stamped T) most) (n types : ℕ) : Type 0 where
  pub count : n ≤ s.high
  pub newest : newest s.places.now n ≤ types

pub wider : {T : Type 0} {most : ℕ} {s : Slots (Stamped T) most} {n types more : ℕ} → Holds s n types → types ≤ more → Holds s n more
wider h l = record { count = h.count; newest = omega (arith, h.newest) }

-- and so they do in slots of the same things
pub held : {T : Type 0} {most : ℕ} {s s' : Slots (Stamped T) most} {n types : ℕ} → SameSlots s s' → Holds s n types → Holds s' n types
held s h = record { count = omega (arith, s.high, h.count); newest = rw s.places h.newest }

-- the tests by which a memory vouches for counts
pub record Vouch (m : Memory) (c : Counts) : Type 0 where
  pub begun : first_labels ≤ c.labels
  pub labels : c.labels ≡ m.labels.high
  pub types : c.types ≤ m.types.high
  pub functions : Holds m.functions c.functions c.types
  pub entries : Holds m.entries c.entries c.types

pub vouch : (m : Memory) (c : Counts) → vouches m c ≡ true → Vouch m c
vouch m c h = grind (arith, nat_tests)

pub vouch_back : (m : Memory) (c : Counts) → Vouch m c → vouches m c ≡ true
vouch_back m c v = grind (arith, nat_tests)

module _ (m : Memory) (c : Counts) (v : Vouch m c) where
  types_mean : (n : ℕ) → n < c.types → slice_get (types_of m c) n ≡ Some (means m n)
  unfolding tree
  types_mean n h =
      let len = length_meanings m.types.places.now in
      nth_take c.types (meanings m.types.places.now) n h ∙ slice_get-get_or (meanings m.types.places.now) n none (omega (arith, v.types, m.types.room))

  pub well : Well m c
  well =
      let lr = m.labels.room in
      let tr = m.types.room in
      let labels_count : length (labels_of m c) ≡ c.labels = grind (arith, common_steps) in
      let types_count : length (types_of m c) ≡ c.types = length-take-le c.types (meanings m.types.places.now) (omega (arith, length_meanings m.types.places.now)) in
      record {
        vouched = vouch_back m c v;
        labels_count = labels_count;
        types_count = types_count;
        functions_count = grind (arith, common_steps);
        entries_count = grind (arith, common_steps);
        labels_room = omega arith;
        types_room = omega arith;
        functions_room = omega (arith, m.functions.room);
        entries_room = omega (arith, m.entries.room);
        labels_apart = told_map spelled label-tells m.labels.places.now m.labels.high c.labels m.labels_apart (omega arith) (omega arith);
        labels_short = λ k bs e. grind (arith, common_steps, gets, slice_get-map, spelled-short);
        labels_first = take-map spelled first_labels (take c.labels m.labels.places.now) ∙ ap (map spelled) (take-take first_labels c.labels m.labels.places.now v.begun) ∙ m.labels_begun (omega arith);
        types_apart = λ i j hi hj e. let ei = types_mean i (omega arith) in let ej = types_mean j (omega arith) in numbers_tell m.labels.high m.types.places.now m.types.high m.types_sound (omega arith) m.types_apart i j (omega arith) (omega arith) (cc);
        types_mean = types_mean;
        types_flat = λ n h. flat_at m.labels.high m.types.places.now m.types.high m.types_sound (omega arith) n (omega arith);
        types_calm = λ n h. calm_tree m.labels.high m.types.places.now m.types.high m.types_sound (omega arith) (means m n) n (omega arith) refl;
        functions_over = over m.functions.places.now m.functions.high c.functions c.types m.functions_rising v.functions.count v.functions.newest;
        entries_over = over m.entries.places.now m.entries.high c.entries c.types m.entries_rising v.entries.count v.entries.newest;
      }

-- where as many labels and types are there, what is vouched for rests on the rows
pub still : {m m' : Memory} {c c' : Counts} → Vouch m c → m'.labels.high ≡ m.labels.high → m'.types.high ≡ m.types.high → c'.labels ≡ c.labels → c'.types ≡ c.types → Holds m'.functions c'.functions c.types → Holds m'.entries c'.entries c.types → Well m' c'
still v l t cl ct f e = well _ _ (record { begun = omega arith; labels = cc; types = omega arith; functions = rw ct f; entries = rw ct e })
