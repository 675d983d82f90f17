-- A thing that is looked for place by place.
use Rattle.std.proofs.Common.{◌≡◌, ℕ, ◌+◌, ◌<◌, ◌≤◌, Bool, false, List, length, get_or, Some, None, Decides, refl, ap, ◌∙◌, ⊎_elim, arith, below_more}
use Rattle.std.specs.List.{slice_get}
use Rattle.std.proofs.lemmas.Option.{slice_get_past, slice_get_read}
use Rattle.std.proofs.lemmas.Bool.{cases_lt}
use Rattle.std.proofs.lemmas.Bool.Decides.{not_from_Decides}
use Rattle.places.specs.Finding.{Absent}

-- the thing is at no place before i
abbrev pub Passed : {A : Type 0} → List A → A → ℕ → Type 0
Passed xs x i = (k : ℕ) → k < i → slice_get xs k ≡ Some x → ⊥

module _ {A : Type 0} (xs : List A) (x : A) where
  -- what stands at i is the thing
  pub found : (i : ℕ) (kept : A) → i < length xs → kept ≡ get_or xs i kept → kept ≡ x → slice_get xs i ≡ Some x
  found i kept within read same = slice_get_read xs (length xs) i kept refl within read ∙ ap (λ y. Some y) same

  -- what stands at i is another
  pub passed_more : (i : ℕ) (kept : A) (r : Bool) → i < length xs → kept ≡ get_or xs i kept → r ≡ false → Decides r (kept ≡ x) → Passed xs x i → Passed xs x (i + 1)
  passed_more i kept r within read differs decides passed =
      below_more
      (λ k. slice_get xs k ≡ Some x → ⊥)
      i
      passed
      (λ e. let there : slice_get xs i ≡ Some kept = slice_get_read xs (length xs) i kept refl within read in
      let same : kept ≡ x = cc in
      not_from_Decides r decides differs same)

  -- all were passed
  pub passed_all : (i : ℕ) → length xs ≤ i → Passed xs x i → Absent xs x
  passed_all i all passed k e =
      ⊎_elim (λ (before : k < i). passed k before e)
      (λ (past : i ≤ k). let none : slice_get xs k ≡ None = slice_get_past xs k (omega arith) in
      let z : ◌≡◌ {A = ℕ} 0 1 = cc in
      omega arith)
      (cases_lt k i)
