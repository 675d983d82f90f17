-- Types that are found or added. Assumes nothing.
use Rattle.std.proofs.Common.{◌≡◌, ℕ, ◌<◌, Bool, true, false, not, ◌&&◌, leb, [], ◌∷◌, length, get_or, Some, None, Ok, Err, Decides, Option, Result, sym, refl, ap, ◌∙◌, inl, inr, arith}
use Rattle.std.specs.List.{slice_get}
use Rattle.std.proofs.lemmas.List.{length-take}
use Rattle.std.proofs.lemmas.Option.{slice_get-get_or, slice_get_within, get_or_from_slice_get}
use Rattle.std.proofs.lemmas.Result.{MatchResult-weaker}
use Rattle.terms.specs.declared.Reason.{Reason}
use Rattle.terms.specs.declared.Reason.TheVariants.{BufferTooSmall, OutOfRange, UnknownPart, BadPart, TooDeep, TypesFull}
use Rattle.terms.specs.declared.Refusal.{Refusal}
use Rattle.terms.specs.Refusals.{first, plainly}
use Rattle.terms.specs.Limits.{most_types}
use Rattle.places.specs.declared.record.TypeRecord.{TypeRecord}
use Rattle.places.specs.Records.{blank}
use Rattle.places.specs.Finding.{Absent}
use Rattle.types.specs.declared.view.View.{View}
use Rattle.types.specs.Trees.{Ty, same, grown}
use Rattle.types.specs.Checks.{unfit, fit, in_range, unknown_part, bad_part, too_deep}
use Rattle.types.specs.Facts.{Sound}
use Rattle.types.specs.Views.{size, meant}
use Rattle.types.proofs.Meanings.{tree_set, tree-new, meanings-front, meanings-more}
use Rattle.types.proofs.Fitting.{unfit-same, fit_none, fit_parts, tree-at, sound_more}
use Rattle.types.proofs.Telling.{record_told, same_true, same-itself}
use Rattle.pool.specs.declared.store.Counts.{Counts}
use Rattle.pool.specs.declared.store.Memory.{Memory}
use Rattle.pool.specs.declared.store.slots.Slots.{Slots}
use Rattle.pool.specs.Facts.{back}
use Rattle.pool.specs.Slots.{Intern}
use Rattle.pool.specs.Held.{records_of, types_of, means, rooms_of, vouches}
use Rattle.pool.specs.Reasons.{among, why_type}
use Rattle.pool.specs.Steps.{Shows, TypeRead, TypeAdd}
use Rattle.pool.proofs.Places.{among_there, among_absent, interned_old, interned_new, nth_take}
use Rattle.pool.proofs.Vouched.{Vouch, vouch, vouch_back, well, wider}
use Rattle.pool.proofs.Growing.{grows_none, grows-wider}
use Rattle.pool.proofs.Alike.{same_memory}
use Rattle.pool.proofs.Pushed.{same_room, interned}

-- two trees are tested by what they are
same-decides : (t u : Ty) → Decides (same t u) (t ≡ u)
same-decides t u = (same_true t u, λ e. ap (same t) (sym e) ∙ same-itself t)

-- what a view refuses is what the memory refuses
pub unfit-shown : (m : Memory) (c : Counts) (v : View) (r : TypeRecord) → Shows m c v → unfit v.labels (size v) (meant v) r ≡ unfit c.labels c.types (means m) r
unfit-shown m c v r s = rw (s.labels, s.types) (unfit-same c.labels c.types (meant v) (means m) r s.value)

-- a record that may not stand is refused for that
pub unfit-leads : (m : Memory) (c : Counts) (r : TypeRecord) (e : Refusal) → vouches m c ≡ true → Some e ≡ plainly (unfit c.labels c.types (means m) r) → Some e ≡ plainly (why_type m c r)
unfit-leads m c r e v h =
    go (vouches m c) (in_range r) (unknown_part c.labels c.types r) (bad_part (means m) r) (too_deep (means m) r) (not (among same (grown (means m) r) (types_of m c)) && leb (rooms_of m).types c.types) v h
  where
    go : (a b d f g h : Bool) → a ≡ true → Some e ≡ plainly (first ((not b, OutOfRange) ∷ ((d, UnknownPart) ∷ ((f, BadPart) ∷ ((g, TooDeep) ∷ []))))) → Some e ≡ plainly (first ((not a, BufferTooSmall) ∷ ((not b, OutOfRange) ∷ ((d, UnknownPart) ∷ ((f, BadPart) ∷ ((g, TooDeep) ∷ ((h, TypesFull) ∷ [])))))))
    go a b d f g h p q = grind arith

-- no reason is None
pub plainly-none : (o : Option Reason) → None ≡ plainly o → o ≡ None
plainly-none None e = refl
plainly-none (Some x) e = cc

-- a record that the view does not refuse may stand
pub may_stand : (m : Memory) (c : Counts) (v : View) (r : TypeRecord) → Shows m c v → None ≡ plainly (unfit v.labels (size v) (meant v) r) → unfit c.labels c.types (means m) r ≡ None
may_stand m c v r s h = plainly-none _ (h ∙ ap plainly (unfit-shown m c v r s))

-- the record at a live place makes its tree
pub type_read : (m : Memory) (c : Counts) (n : ℕ) (r : TypeRecord) → Vouch m c → slice_get (records_of m c) n ≡ Some r → TypeRead m c n r
type_read m c n r k h =
    let l : n < c.types = omega (arith, slice_get_within (records_of m c) n r h, length-take c.types m.types.places.now) in
    let q : get_or m.types.places.now n blank ≡ r = get_or_from_slice_get m.types.places.now n r blank (sym (nth_take c.types m.types.places.now n l) ∙ h) in
    record { place = h; value = rw q at (tree-at m.labels.high m.types.places.now m.types.high n m.types_sound (omega (arith, m.types.room)) (omega (arith, k.types))) }

module _ (m : Memory) (c : Counts) (r : TypeRecord) (k : Vouch m c) (f : fit c.labels c.types (means m) r ≡ true) where
  -- a record that is there has its tree there
  tree_there : (n : ℕ) → slice_get (records_of m c) n ≡ Some r → slice_get (types_of m c) n ≡ Some (grown (means m) r)
  tree_there n h = (well m c k).types_mean n (omega (arith, slice_get_within (records_of m c) n r h, length-take c.types m.types.places.now)) ∙ ap Some (type_read m c n r k h).value

  -- and the tree of one that is not there is not there
  tree_absent : Absent (records_of m c) r → Absent (types_of m c) (grown (means m) r)
  tree_absent h n e =
      let w = well m c k in
      let l : n < c.types = omega (arith, slice_get_within (types_of m c) n (grown (means m) r) e, w.types_count) in
      let t = w.types_mean n l in
      let q : means m n ≡ grown (means m) r = cc in
      let g : fit m.labels.high c.types (means m) r ≡ true = ap (λ (x : ℕ). fit x c.types (means m) r) (sym k.labels) ∙ f in
      let parts = fit_parts m.labels.high c.types (means m) r g in
      let told = record_told m.labels.high m.types.places.now c.types (λ i h. m.types_sound i (omega (arith, k.types))) (omega (arith, k.types, m.types.room)) (λ i j h. m.types_apart i j (h.0, omega (arith, k.types))) n r l parts.below (parts.child, parts.second) q in
      h n (nth_take c.types m.types.places.now n l ∙ slice_get-get_or m.types.places.now n blank (omega (arith, k.types, m.types.room)) ∙ ap Some told)

-- of a record that may stand only the want of room is refused
full_only : (m : Memory) (c : Counts) (r : TypeRecord) (b : Bool) → vouches m c ≡ true → unfit c.labels c.types (means m) r ≡ None → among same (grown (means m) r) (types_of m c) ≡ b → why_type m c r ≡ first ((not b && leb (rooms_of m).types c.types, TypesFull) ∷ [])
full_only m c r b v u e =
    go (vouches m c) (in_range r) (unknown_part c.labels c.types r) (bad_part (means m) r) (too_deep (means m) r) (among same (grown (means m) r) (types_of m c)) (leb (rooms_of m).types c.types) v u e
  where
    go : (x y z s t i l : Bool) → x ≡ true → first ((not y, OutOfRange) ∷ ((z, UnknownPart) ∷ ((s, BadPart) ∷ ((t, TooDeep) ∷ [])))) ≡ None → i ≡ b → first ((not x, BufferTooSmall) ∷ ((not y, OutOfRange) ∷ ((z, UnknownPart) ∷ ((s, BadPart) ∷ ((t, TooDeep) ∷ ((not i && l, TypesFull) ∷ [])))))) ≡ first ((not b && l, TypesFull) ∷ [])
    go x y z s t i l p q e = grind arith

-- with one more that may stand all may
pub sound_added : (m : Memory) (c : Counts) (n : ℕ) (r : TypeRecord) (a : Result ℕ Refusal) (s : Slots TypeRecord most_types) → Vouch m c → unfit c.labels c.types (means m) r ≡ None → Intern m.types c.types r TypesFull a s n → Sound m.labels.high s.places.now s.high
sound_added m c n r a s k u i = interned (Sound m.labels.high) m.types s c.types n r TypesFull a i m.types_sound (λ none room. sound_more m.labels.high m.types.places.now m.types.high c.types r m.types_sound k.types (omega arith) (ap (λ (x : ℕ). fit x c.types (means m) r) (sym k.labels) ∙ fit_none c.labels c.types (means m) r u))

-- a type that is there keeps its number, and one that was not comes last
pub type_added : (m m' : Memory) (c : Counts) (n : ℕ) (r : TypeRecord) (a : Result ℕ Refusal) → vouches m c ≡ true → unfit c.labels c.types (means m) r ≡ None → Intern m.types c.types r TypesFull a m'.types n → m'.labels ≡ m.labels → m'.functions ≡ m.functions → m'.entries ≡ m.entries → TypeAdd m c r a m' (back c n)
type_added m m' c n r (Err e) v u (inl h) l f d = absurd h
type_added m m' c n r (Ok k) v u (inl h) l f d =
    let w = vouch m c v in
    let there = tree_there m c r w (fit_none c.labels c.types (means m) r u) k h.there in
    let live : k < c.types = omega (arith, slice_get_within (types_of m c) k (grown (means m) r) there, (well m c w).types_count) in
    let t = (well m c w).types_mean k live in
    rw (same_memory m m' l h.same f d, h.count) (record {
      refused = ap plainly (sym (full_only m c r true v u (among_there same same-decides (types_of m c) (grown (means m) r) k there)));
      done = record { number = interned_old (types_of m c) (grown (means m) r) k there; value = cc; grows = grows-wider 1 (omega arith) (grows_none m c v); well = well m c w };
    })
type_added m m' c n r a v u (inr h) l f d =
    let w = vouch m c v in
    let fits = fit_none c.labels c.types (means m) r u in
    let none = tree_absent m c r w fits h.0 in
    let b = (fit_parts c.labels c.types (means m) r fits).below in
    let rs = m.types.places.now in
    record {
      refused = h.1.refused ∙ ap plainly (sym (full_only m c r false v u (among_absent same same-decides (types_of m c) (grown (means m) r) none)));
      done = MatchResult-weaker a h.1.done
          (λ k q.
          let long : c.types < length rs = omega (arith, q.room) in
          let front : types_of m' c ≡ types_of m c = rw q.places (meanings-front rs c.types r long) in
          let u' : Vouch m' (back c n) = record { begun = w.begun; labels = w.labels ∙ ap (λ s. s.high) (sym l); types = omega (arith, q.high, q.count); functions = rw f (wider w.functions (omega (arith, q.count))); entries = rw d (wider w.entries (omega (arith, q.count))) } in
          record {
            number = interned_new (types_of m c) _ (grown (means m) r) k (q.place ∙ sym (well m c w).types_count) none (rw (q.places, q.count) (meanings-more rs c.types r long b));
            value = rw (q.places, q.place) (tree-new rs c.types r long b);
            grows = record { from = v; to = vouch_back m' _ u'; up = omega (arith, q.count); most = omega (arith, q.count); counts = refl; rooms = cc (l, f, d, same_room q); needs = cc (f, d); before = cc (front, l, f, d); keeps = λ j lt. rw q.places (tree_set rs c.types j r long lt) };
            well = well m' _ u';
          })
          (λ x q. (ap (back c) q.1, same_memory m m' l q.0 f d));
    }
