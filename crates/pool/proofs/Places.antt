-- What stands at a place of a list, and lists whose things are apart. Assumes nothing.
use Rattle.std.proofs.Common.{◌≡◌, ℕ, zero, suc, ◌+◌, ◌<◌, ◌≤◌, Bool, true, false, ◌≢◌, List, [], ◌∷◌, ◌++◌, map, length, take, set, Some, Decides, sym, refl, ap, ◌∙◌, ⊎_elim, arith}
use Rattle.std.specs.List.{slice_get}
use Rattle.std.proofs.lemmas.List.{length-take-le}
use Rattle.std.proofs.lemmas.Grind.{common_steps}
use Rattle.std.proofs.lemmas.Option.{gets, slice_get_within, slice_get-map}
use Rattle.std.proofs.lemmas.Bool.{cases_lt, cases_order, or_right}
use Rattle.places.specs.Finding.{Absent}
use Rattle.types.specs.Facts.{Apart}
use Rattle.pool.specs.Reasons.{among}
use Rattle.pool.specs.Laws.{Interned, ToldApart}

pub nth_take : {A : Type 0} (n : ℕ) (xs : List A) (i : ℕ) → i < n → slice_get (take n xs) i ≡ slice_get xs i
nth_take n xs i h = grind (arith, common_steps, gets)

pub nth_set_same : {A : Type 0} (xs : List A) (i : ℕ) (y : A) → i < length xs → slice_get (set xs i y) i ≡ Some y
nth_set_same xs i y h = grind (arith, common_steps, gets)

pub nth_set_other : {A : Type 0} (xs : List A) (i j : ℕ) (y : A) → j ≢ i → slice_get (set xs i y) j ≡ slice_get xs j
nth_set_other xs i j y h = grind (arith, common_steps, gets)

pub nth_push : {A : Type 0} (xs : List A) (x : A) (i : ℕ) → i ≡ length xs → slice_get (xs ++ x ∷ []) i ≡ Some x
nth_push xs x i h = grind (arith, common_steps, gets)

-- one more thing that was not there
pub apart_more : {A : Type 0} (xs : List A) (high n : ℕ) (x : A) → Apart xs high → n ≤ high → n < length xs → Absent (take n xs) x → Apart (set xs n x) (n + 1)
apart_more xs high n x all le lt none i j h e =
    let ei = nth_set_other xs n i x (omega arith) in
    ⊎_elim
    (λ l. all i j (h.0, omega arith) (sym ei ∙ e ∙ nth_set_other xs n j x (omega arith)))
    (λ l. let q : j ≡ n = omega arith in none i (nth_take n xs i (omega arith) ∙ sym ei ∙ e ∙ ap (slice_get (set xs n x)) q ∙ nth_set_same xs n x lt))
    (cases_lt j n)

pub apart_take : {A : Type 0} (xs : List A) (high k : ℕ) → Apart xs high → k ≤ high → high ≤ length xs → Apart (take k xs) (length (take k xs))
apart_take xs high k all le len i j h e =
    let n : length (take k xs) ≡ k = length-take-le k xs (omega arith) in
    all i j (h.0, omega arith) (sym (nth_take k xs i (omega arith)) ∙ e ∙ nth_take k xs j (omega arith))

-- a thing that is there is among the others, and one that is not is not
pub among_there : {A : Type 0} (e : A → A → Bool) (tells : (x y : A) → Decides (e x y) (x ≡ y)) (xs : List A) (x : A) (k : ℕ) → slice_get xs k ≡ Some x → among e x xs ≡ true
among_there e tells [] x k h = cc
among_there e tells (y ∷ ys) x zero h = let t = (tells x y).1 in grind arith
among_there e tells (y ∷ ys) x (suc k) h = or_right (e x y) (among e x ys) (among_there e tells ys x k h)

pub among_absent : {A : Type 0} (e : A → A → Bool) (tells : (x y : A) → Decides (e x y) (x ≡ y)) (xs : List A) (x : A) → Absent xs x → among e x xs ≡ false
among_absent e tells [] x h = refl
among_absent e tells (y ∷ ys) x h =
    let rest = among_absent e tells ys x (λ k. h (suc k)) in
    let here = h 0 in
    let t = (tells x y).0 in
    grind arith

-- what is not there is not there by what it shows, where that tells it
pub absent_map : {A B : Type 0} (f : A → B) (only : (x y : A) → f x ≡ f y → x ≡ y) (xs : List A) (x : A) → Absent xs x → Absent (map f xs) (f x)
absent_map f only xs x h k e = grind (arith, gets, slice_get-map, only, h)

-- what was there before has its old number
pub interned_old : {A : Type 0} (xs : List A) (x : A) (k : ℕ) → slice_get xs k ≡ Some x → Interned xs x k xs
interned_old xs x k e = record { there = e; old = λ _. refl; new = λ h. absurd (omega (arith, slice_get_within xs k x e)) }

-- what was not comes last
pub interned_new : {A : Type 0} (xs ys : List A) (x : A) (k : ℕ) → k ≡ length xs → Absent xs x → ys ≡ xs ++ x ∷ [] → Interned xs x k ys
interned_new xs ys x k h a e = record { there = ap (λ zs. slice_get zs k) e ∙ nth_push xs x k h; old = λ l. absurd (omega arith); new = λ _. (h, a, e) }

-- one more thing, by what it shows
pub map_more_set : {A B : Type 0} (f : A → B) (xs : List A) (n : ℕ) (x : A) → n < length xs → map f (take (n + 1) (set xs n x)) ≡ map f (take n xs) ++ f x ∷ []
map_more_set f xs n x h = grind (arith, common_steps)

-- things that are apart are told by what they show, where that tells them
pub told_map : {A B : Type 0} (f : A → B) (only : (x y : A) → f x ≡ f y → x ≡ y) (xs : List A) (high n : ℕ) → Apart xs high → n ≤ high → high ≤ length xs → ToldApart (map f (take n xs))
told_map f only xs high n apart le len i j hi hj e =
    let ln : length (map f (take n xs)) ≡ n = grind (arith, common_steps) in
    let s : slice_get xs i ≡ slice_get xs j = grind (arith, gets, slice_get-map, nth_take, only) in
    ⊎_elim (λ x. x) (λ w. ⊎_elim (λ lt. absurd (apart i j (lt, omega arith) s)) (λ lt. absurd (apart j i (lt, omega arith) (sym s))) w) (cases_order i j)
