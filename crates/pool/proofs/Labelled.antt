-- Labels that are found or added. Assumes nothing.
use Rattle.std.proofs.Common.{◌≡◌, ℕ, ◌+◌, ◌≤◌, true, List, map, length, set, Some, Ok, Err, Result, sym, refl, ap, ◌∙◌, inl, inr, arith}
use Rattle.std.specs.List.{slice_get}
use Rattle.std.specs.Option.{option_map}
use Rattle.std.specs.Str.{bytes_eq}
use Rattle.std.proofs.lemmas.List.{take-set-le}
use Rattle.std.proofs.lemmas.Option.{slice_get-map}
use Rattle.std.proofs.lemmas.Result.{MatchResult-weaker}
use Rattle.std.proofs.lemmas.Slice.Eq.{bytes_eq-Decides}
use Rattle.std.proofs.lemmas.Bool.{le-ltb}
use Rattle.terms.specs.declared.Reason.TheVariants.{LabelsFull}
use Rattle.terms.specs.declared.Refusal.{Refusal}
use Rattle.terms.specs.Limits.{longest_label, first_labels}
use Rattle.places.specs.declared.label.Label.{Label}
use Rattle.places.specs.Labels.{spelled, written, labelled}
use Rattle.places.proofs.Tells.{label-tells, spelled-short}
use Rattle.pool.specs.declared.store.Counts.{Counts}
use Rattle.pool.specs.declared.store.Memory.{Memory}
use Rattle.pool.specs.Facts.{Begun}
use Rattle.pool.specs.Slots.{live, Intern}
use Rattle.pool.specs.Held.{labels_of, vouches}
use Rattle.pool.specs.Steps.{LabelAdd}
use Rattle.pool.proofs.Places.{among_there, among_absent, absent_map, interned_old, interned_new}
use Rattle.pool.proofs.Vouched.{vouch, well}
use Rattle.pool.proofs.Alike.{same_memory}
use Rattle.pool.proofs.Pushed.{mapped, same_room}

-- a text that is no longer than a label is spelled by its label
pub spelled-ok : (l : Label) (bs : List ℕ) → written (Ok l) ≡ labelled bs → spelled l ≡ bs
spelled-ok l bs e = grind arith

pub begun_more : (ls : List Label) (h n : ℕ) (l : Label) → Begun ls h → first_labels ≤ n → n ≤ h → Begun (set ls n l) (n + 1)
begun_more ls h n l b lo hi _ = ap (map spelled) (take-set-le first_labels ls n l lo) ∙ b (omega arith)

-- a label that is there keeps its number, and one that was not comes last
pub label_added : (m m' : Memory) (c : Counts) (n : ℕ) (l : Label) (a : Result ℕ Refusal) → vouches m c ≡ true → Intern m.labels c.labels l LabelsFull a m'.labels n → m'.types ≡ m.types → m'.functions ≡ m.functions → m'.entries ≡ m.entries → LabelAdd m c (spelled l) a m' (record c { labels = n })
label_added m m' c n l (Err r) v (inl h) t f e = absurd h
label_added m m' c n l (Ok k) v (inl h) t f e =
    let there : slice_get (labels_of m c) k ≡ Some (spelled l) = slice_get-map spelled (live m.labels c.labels) k ∙ ap (option_map spelled) h.there in
    let among = among_there bytes_eq bytes_eq-Decides (labels_of m c) (spelled l) k there in
    let short = le-ltb longest_label (length (spelled l)) (spelled-short l) in
    rw (same_memory m m' h.same t f e, h.count) (record { refused = grind arith; done = record { number = interned_old (labels_of m c) (spelled l) k there; frame = refl; rooms = refl; well = well m c (vouch m c v) } })
label_added m m' c n l a v (inr h) t f e =
    let u = vouch m c v in
    let none = absent_map spelled label-tells (live m.labels c.labels) l h.0 in
    let among = among_absent bytes_eq bytes_eq-Decides (labels_of m c) (spelled l) none in
    let short = le-ltb longest_label (length (spelled l)) (spelled-short l) in
    record {
      refused = grind (arith, h.1.refused);
      done = MatchResult-weaker a h.1.done
          (λ k q. record {
            number = interned_new (labels_of m c) _ (spelled l) k (q.place ∙ sym (well m c u).labels_count) none (mapped spelled q);
            frame = cc (t, f, e);
            rooms = cc (t, f, e, same_room q);
            well = well m' _ (record { begun = omega (arith, u.begun, q.count); labels = cc (q.count, q.high); types = omega (arith, u.types, ap (λ s. s.high) t); functions = rw f u.functions; entries = rw e u.entries });
          })
          (λ r q. (ap (λ j. record c { labels = j }) q.1, same_memory m m' q.0 t f e));
    }
