-- How growths join, and what room they leave: for callers that add through a trial. Assumes nothing.
use Rattle.std.proofs.Common.{◌≡◌, ℕ, ◌+◌, ◌≤◌, Bool, true, false, not, ◌&&◌, leb, [], ◌∷◌, take, Some, None, sym, refl, ap, ◌∙◌, arith}
use Rattle.std.proofs.lemmas.List.{take-take}
use Rattle.std.proofs.lemmas.Bool.{leb-true}
use Rattle.terms.specs.declared.Reason.TheVariants.{BufferTooSmall, OutOfRange, UnknownPart, BadPart, TooDeep, TypesFull}
use Rattle.terms.specs.Refusals.{first}
use Rattle.places.specs.declared.record.TypeRecord.{TypeRecord}
use Rattle.types.specs.Trees.{same, grown, meanings}
use Rattle.types.specs.Checks.{in_range, unknown_part, bad_part, too_deep}
use Rattle.types.proofs.Meanings.{Below, grown-below}
use Rattle.types.proofs.Fitting.{known-below}
use Rattle.pool.specs.declared.store.Counts.{Counts}
use Rattle.pool.specs.declared.store.Memory.{Memory}
use Rattle.pool.specs.Facts.{back}
use Rattle.pool.specs.Held.{State, types_of, means, seen, rooms_of, needed, vouches}
use Rattle.pool.specs.Reasons.{among, why_type}
use Rattle.pool.specs.Laws.{Grows}
use Rattle.pool.proofs.Vouched.{vouch, vouch_back}

-- nothing is added
pub grows_none : (m : Memory) (c : Counts) → vouches m c ≡ true → Grows 0 m c m c
grows_none m c v = record { from = v; to = v; up = omega arith; most = omega arith; counts = refl; rooms = refl; needs = refl; before = refl; keeps = λ n h. refl }

-- more may be added than is
pub grows-wider : {j : ℕ} (k : ℕ) {m m' : Memory} {c c' : Counts} → j ≤ k → Grows j m c m' c' → Grows k m c m' c'
grows-wider k h g = record { from = g.from; to = g.to; up = g.up; most = omega (arith, g.most); counts = g.counts; rooms = g.rooms; needs = g.needs; before = g.before; keeps = g.keeps }

-- the counts go back, and what was there before is as it was
pub grows_back : {k : ℕ} {m m' : Memory} {c c' : Counts} → Grows k m c m' c' → Grows 0 m c m' c
grows_back {k} {m} {m'} {c} {c'} g =
    let a = vouch m c g.from in
    let b = vouch m' (back c c'.types) (ap (vouches m') (sym g.counts) ∙ g.to) in
    let n : needed m c ≤ c.types = omega (arith, a.functions.newest, a.entries.newest) in
    record {
      from = g.from;
      to = vouch_back m' c (record { begun = a.begun; labels = b.labels; types = omega (arith, b.types, g.up); functions = record { count = b.functions.count; newest = omega (arith, n, g.needs) }; entries = record { count = b.entries.count; newest = omega (arith, n, g.needs) } });
      up = omega arith;
      most = omega arith;
      counts = refl;
      rooms = g.rooms;
      needs = g.needs;
      before = g.before;
      keeps = g.keeps;
    }

-- what is seen with fewer types
fewer : (m : Memory) (c : Counts) (n : ℕ) → c.types ≤ n → seen m c ≡ record (seen m (back c n)) { types = take c.types (seen m (back c n)).types }
fewer m c n h = ap (λ ts. record (seen m (back c n)) { types = ts }) (sym (take-take c.types n (meanings m.types.places.now) h))

-- one growth after another
pub grows-more : {j k : ℕ} {m m1 m2 : Memory} {c c1 c2 : Counts} → Grows j m c m1 c1 → Grows k m1 c1 m2 c2 → Grows (j + k) m c m2 c2
grows-more {j} {k} {m} {m1} {m2} {c} {c1} {c2} a b =
    let e : c1 ≡ back c c1.types = a.counts in
    let s : seen m2 (back c c1.types) ≡ seen m1 (back c c1.types) = ap (seen m2) (sym e) ∙ b.before ∙ ap (seen m1) e in
    record {
      from = a.from;
      to = b.to;
      up = omega (arith, a.up, b.up);
      most = omega (arith, a.most, b.most);
      counts = b.counts ∙ ap (λ (x : Counts). back x c2.types) e;
      rooms = b.rooms ∙ a.rooms;
      needs = (let q : needed m2 (back c c1.types) ≡ needed m1 (back c c1.types) = ap (needed m2) (sym e) ∙ b.needs ∙ ap (needed m1) e in q) ∙ a.needs;
      before = fewer m2 c c1.types a.up ∙ ap (λ (x : State). record x { types = take c.types x.types }) s ∙ sym (fewer m1 c c1.types a.up) ∙ a.before;
      keeps = λ n h. b.keeps n (omega (arith, a.up)) ∙ a.keeps n h;
    }

-- an add is refused for want of room only where no place is free
pub short : (m : Memory) (c : Counts) (r : TypeRecord) → why_type m c r ≡ Some TypesFull → (rooms_of m).types ≤ c.types
short m c r e = leb-true (rooms_of m).types c.types (go (vouches m c) (in_range r) (unknown_part c.labels c.types r) (bad_part (means m) r) (too_deep (means m) r) (among same (grown (means m) r) (types_of m c)) (leb (rooms_of m).types c.types) e)
  where
    go : (a b d f g h x : Bool) → first ((not a, BufferTooSmall) ∷ ((not b, OutOfRange) ∷ ((d, UnknownPart) ∷ ((f, BadPart) ∷ ((g, TooDeep) ∷ ((not h && x, TypesFull) ∷ [])))))) ≡ Some TypesFull → x ≡ true
    go a b d f g h x q = grind arith

-- what goes through is made of what is live
pub accepted_below : (m : Memory) (c : Counts) (r : TypeRecord) → why_type m c r ≡ None → Below c.types r
accepted_below m c r e =
    known-below c.labels c.types r (go (vouches m c) (in_range r) (unknown_part c.labels c.types r) (bad_part (means m) r) (too_deep (means m) r) (not (among same (grown (means m) r) (types_of m c)) && leb (rooms_of m).types c.types) e)
  where
    go : (a b d f g h : Bool) → first ((not a, BufferTooSmall) ∷ ((not b, OutOfRange) ∷ ((d, UnknownPart) ∷ ((f, BadPart) ∷ ((g, TooDeep) ∷ ((h, TypesFull) ∷ [])))))) ≡ None → d ≡ false
    go a b d f g h q = grind arith

-- a record over live numbers means the same after a growth
pub grown-kept : {k : ℕ} {m m' : Memory} {c c' : Counts} → Grows k m c m' c' → (r : TypeRecord) → Below c.types r → grown (means m') r ≡ grown (means m) r
grown-kept {k} {m} {m'} {c} {c'} g r b = grown-below (means m') (means m) c.types r b g.keeps
