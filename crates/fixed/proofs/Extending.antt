-- Things written behind a list in its place: they come after it, as many as there is room for, and blanks after them.
use Rattle.std.proofs.Common.{◌≡◌, ℕ, ◌+◌, ◌-◌, ◌≤◌, List, ◌++◌, length, take, drop, replicate, min, sym, ap, ◌∙◌, arith}
use Rattle.std.proofs.lemmas.List.{length-take-le, take_min, drop-drop, drop-replicate}
use Rattle.std.proofs.lemmas.Slice.{take-put_mid, drop-put_mid}
use Rattle.std.proofs.lemmas.Grind.{common_steps}
use Rattle.std.proofs.Math.Seq.{take-append-add}
use borrow.Rule.Slice.PartMut.{put_mid}

-- ys, the first r of ts, are written into m places, of which a are taken, in place of the k behind those
module _ {A : Type 0} (xs ts ys : List A) (a m r k : ℕ) (within : a ≤ m) (size : length xs ≡ m) (more : r ≡ min (length ts) (m - a)) (part : k ≡ a + r - a) (copied : ys ≡ take r ts) where
  long : length ys ≡ r
  long = ap length copied ∙ length-take-le r ts (omega (arith, more))

  pub extended-size : length (put_mid a k xs ys) ≡ m
  extended-size = grind (arith, common_steps, long)

  pub extended : take (a + r) (put_mid a k xs ys) ≡ take m (take a xs ++ ts)
  extended =
      let n = length-take-le a xs (omega (arith, size)) in
      take-put_mid a k xs ys (a + r) (omega (arith, long)) (omega (arith, size))
      ∙ ap (λ zs. take a xs ++ zs) (copied ∙ ap (λ i. take i ts) (more ∙ omega arith) ∙ take_min (m - a) ts)
      ∙ sym (take-append-add (take a xs) ts (m - a))
      ∙ ap (λ i. take i (take a xs ++ ts)) (omega (arith, n))

  pub blanks-left : (b : A) → drop a xs ≡ replicate (m - a) b → drop (a + r) (put_mid a k xs ys) ≡ replicate (m - (a + r)) b
  blanks-left b h =
      drop-put_mid a k xs ys (a + r) (omega arith) (omega arith) (omega (arith, long))
      ∙ sym (drop-drop r a xs) ∙ ap (drop r) h ∙ drop-replicate r (m - a) b ∙ ap (λ n. replicate n b) (omega arith)
