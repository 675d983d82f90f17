-- What a view carries, at one number. Assumes nothing.
use Rattle.std.proofs.Common.{◌≡◌, ℕ, ◌<◌, ◌≤◌, true, ◌&&◌, ◌||◌, eqb, leb, get_or, Some, None, Option, sym, subst, ⊎_elim, arith, MatchOption}
use Rattle.std.specs.List.{slice_get}
use Rattle.std.proofs.lemmas.Bool.{cases_lt}
use Rattle.std.proofs.lemmas.Grind.{common_steps}
use Rattle.std.proofs.lemmas.Option.{gets, get_or_from_slice_get, slice_get_within}
use Rattle.std.proofs.lemmas.Bool.Decides.{nat_tests}
use Rattle.terms.specs.Limits.{deepest_type}
use Rattle.terms.specs.Kinds.{is_integer}
use Rattle.places.specs.declared.record.TypeRecord.{TypeRecord}
use Rattle.places.specs.Records.{blank}
use Rattle.types.specs.declared.view.View.{View}
use Rattle.types.specs.Trees.{none, kind_of, second_of, is_dictionary, same, depth}
use Rattle.types.specs.Views.{size, meant, records, Stands}
use Rattle.types.proofs.Meanings.{tree-past}
use Rattle.types.proofs.Telling.{same_tree, flat_at, key_at}
use Rattle.types.proofs.Fitting.{sound-at, tree-at}

pub stands_at : (v : View) (n : ℕ) → n < size v → Stands v n (get_or (records v) n blank)
stands_at v n h =
    let f = sound-at v.labels (records v) (size v) n v.sound h in
    record { within = h; value = tree-at v.labels (records v) (size v) n v.sound (omega arith) h; kind = f.kind; child = f.below.child; second = f.below.second }

pub past : (v : View) (n : ℕ) → size v ≤ n → meant v n ≡ none
past v n h = tree-past (records v) n h

-- the record of a number stands for the tree of the number; none is that of no tree
pub told_record : (v : View) (n : ℕ) (o : Option TypeRecord) → o ≡ slice_get (records v) n → MatchOption o (meant v n ≡ none) (λ r. Stands v n r)
told_record v n None e = past v n (grind (arith, common_steps, gets))
told_record v n (Some r) e = subst (Stands v n) (get_or_from_slice_get (records v) n r blank (sym e)) (stands_at v n (slice_get_within (records v) n r (sym e)))

-- two numbers stand for the same where they are equal, or where neither names a type
pub same_past : (v : View) (m n : ℕ) → same (meant v m) (meant v n) ≡ (eqb m n || (leb (size v) m && leb (size v) n))
unfolding same
same_past v m n =
    let e = same_tree v.labels (records v) (size v) v.sound (omega arith) v.apart m n in
    let a = past v m in
    let b = past v n in
    let c = stands_at v m in
    let d = stands_at v n in
    grind (arith, nat_tests)

-- no type is deeper than a type may be
pub flat : (v : View) (n : ℕ) → depth (meant v n) ≤ deepest_type
unfolding depth
flat v n = ⊎_elim (flat_at v.labels (records v) (size v) v.sound (omega arith) n) (λ h. let e = past v n h in grind arith) (cases_lt n (size v))

-- a key is an integer
pub key_integer : (v : View) (n : ℕ) → is_dictionary (kind_of (meant v n)) ≡ true → is_integer (kind_of (second_of (meant v n))) ≡ true
key_integer v n e = let k = key_at v.labels (records v) (size v) v.sound (omega arith) n in let p = past v n in grind (arith, nat_tests)

pub ruleset sames = (same_past, nat_tests, gets)
