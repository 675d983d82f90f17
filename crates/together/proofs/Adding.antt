-- One type after another through a trial. Assumes nothing.
use Rattle.std.proofs.Common.{◌≡◌, ℕ, ◌+◌, ◌<◌, List, length, Some, None, Option, sym, refl, ap, ◌∙◌, subst, ⊎_elim, arith}
use Rattle.std.specs.List.{slice_get}
use Rattle.std.proofs.lemmas.Bool.{cases_lt}
use Rattle.std.proofs.lemmas.Option.{slice_get_within, same_Some}
use Rattle.terms.specs.declared.Reason.{Reason}
use Rattle.terms.specs.declared.Reason.TheVariants.{TypesFull}
use Rattle.terms.specs.declared.Refusal.{Refusal}
use Rattle.terms.specs.Refusals.{plainly}
use Rattle.places.specs.declared.record.TypeRecord.{TypeRecord}
use Rattle.types.specs.Trees.{grown}
use Rattle.types.proofs.Meanings.{Below}
use Rattle.pool.specs.declared.store.Counts.{Counts}
use Rattle.pool.specs.declared.store.Memory.{Memory}
use Rattle.pool.specs.Held.{types_of, means}
use Rattle.pool.specs.Laws.{Grows}
use Rattle.pool.specs.Reasons.{why_type}
use Rattle.pool.specs.Steps.{TypeAdded}
use Rattle.pool.proofs.Growing.{grows-more, grows_back, grows-wider, grown-kept, accepted_below, short}
use Rattle.together.specs.Together.{There, AllThere, Kept, Dropped, Room}

-- what is there stays there
there-kept : {k : ℕ} {m m' : Memory} {c c' : Counts} → Grows k m c m' c' → (r : TypeRecord) → There m c r → There m' c' r
there-kept {k} {m} {m'} {c} {c'} g r t =
    let b : Below c.types r = record { child = t.child; second = t.second } in
    record { number = t.number; live = omega (arith, t.live, g.up); value = g.keeps t.number t.live ∙ t.value ∙ sym (grown-kept g r b); child = λ e. omega (arith, t.child e, g.up); second = λ e. omega (arith, t.second e, g.up) }

-- one more
pub all_more : {i : ℕ} {m m1 m2 : Memory} {c c1 c2 : Counts} (rs : List TypeRecord) (r : TypeRecord) (k : ℕ) → slice_get rs i ≡ Some r → Grows i m c m1 c1 → AllThere m1 c1 rs i → None ≡ plainly (why_type m1 c1 r) → TypeAdded m1 c1 r k m2 c2 → Grows (i + 1) m c m2 c2 × AllThere m2 c2 rs (i + 1)
all_more {i} {m} {m1} {m2} {c} {c1} {c2} rs r k e g a w t =
    let b = accepted_below m1 c1 r (none-plain (why_type m1 c1 r) w) in
    let s = t.grows in
    let l : k < c2.types = omega (arith, slice_get_within (types_of m2 c2) k (grown (means m1) r) t.number.there, t.well.types_count) in
    let here : There m2 c2 r = record { number = k; live = l; value = t.value ∙ sym (grown-kept s r b); child = λ q. omega (arith, b.child q, s.up); second = λ q. omega (arith, b.second q, s.up) } in
    (grows-more g s, λ j x h q. ⊎_elim (λ lt. there-kept s x (a j x lt q)) (λ ge. let z : j ≡ i = omega arith in subst (There m2 c2) (same_Some r x (sym e ∙ ap (slice_get rs) (sym z) ∙ q)) here) (cases_lt j i))
  where
    none-plain : (o : Option Reason) → None ≡ plainly o → o ≡ None
    none-plain None e = refl
    none-plain (Some x) e = cc

-- all, and kept
pub kept : {i : ℕ} {m m1 : Memory} {c c1 : Counts} (rs : List TypeRecord) (c2 : Counts) → i ≡ length rs → c2 ≡ c1 → Grows i m c m1 c1 → AllThere m1 c1 rs i → Kept m c rs m1 c2
kept {i} {m} {m1} {c} {c1} rs c2 n e g a = rw e (record { there = subst (AllThere m1 c1 rs) n a; grows = grows-wider (length rs) (omega arith) g })

-- dropped at the record i
pub dropped : {i : ℕ} {m m1 m2 : Memory} {c c1 : Counts} (rs : List TypeRecord) (r : TypeRecord) (e : Refusal) (c2 : Counts) → slice_get rs i ≡ Some r → m2 ≡ m1 → c2 ≡ c → Grows i m c m1 c1 → AllThere m1 c1 rs i → Some e ≡ plainly (why_type m1 c1 r) → Dropped m c rs e m2 c2
dropped {i} {m} {m1} {m2} {c} {c1} rs r e c2 at q back g a w = record { counts = back; back = rw q (grows_back g); i = i; r = r; at = at; mid = m1; between = c1; added = g; before = a; why = w }

-- want of room is the reason only where too few places were free
pub short_of : {i : ℕ} {m m1 : Memory} {c c1 : Counts} (rs : List TypeRecord) (r : TypeRecord) (e : Refusal) → i < length rs → Grows i m c m1 c1 → Some e ≡ plainly (why_type m1 c1 r) → Room m c rs e
short_of {i} {m} {m1} {c} {c1} rs r e h g w full =
    let s = short m1 c1 r (full-plain (why_type m1 c1 r) w) in
    let t = ap (λ k. k.types) g.rooms in
    omega (arith, g.most)
  where
    full-plain : (o : Option Reason) → Some e ≡ plainly o → o ≡ Some TypesFull
    full-plain None z = cc
    full-plain (Some x) z = ap Some (cc)
