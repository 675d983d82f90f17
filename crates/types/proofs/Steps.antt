-- One step of each recursion over trees. Assumes nothing.
use Rattle.std.proofs.Common.{◌≡◌, ℕ, suc, ◌+◌, ◌≤◌, max, Bool, true, false, cond, refl, arith}
use Rattle.std.proofs.lemmas.Bool.Decides.{nat_tests}
use Rattle.terms.specs.Limits.{deepest_type}
use Rattle.terms.specs.Kinds.{is_list, has_child}
use Rattle.places.specs.declared.record.TypeRecord.{TypeRecord}
use Rattle.types.specs.declared.view.View.{View}
use Rattle.types.specs.Trees.{Ty, none, node, kind_of, child_of, is_dictionary, depth, within, dimensions, grown}
use Rattle.types.specs.Views.{meant}
use Rattle.types.proofs.Viewed.{flat}

pub within_go : (p : ℕ → Bool) (t : Ty) → p (kind_of t) ≡ true → within p (child_of t) ≡ within p t
unfolding within
within_go p t h = grind arith

pub within_stay : (p : ℕ → Bool) (t : Ty) → p (kind_of t) ≡ false → t ≡ within p t
unfolding within
within_stay p t h = grind arith

pub depth-none : depth none ≡ 0
unfolding depth
depth-none = refl

pub depth-grown : (f : ℕ → Ty) (r : TypeRecord) → depth (grown f r) ≡ 1 + max (cond (has_child r.kind) (depth (f r.child)) 0) (cond (is_dictionary r.kind) (depth (f r.second)) 0)
unfolding depth
depth-grown f r = grind arith

pub dimensions-list : (t : Ty) → is_list (kind_of t) ≡ true → dimensions t ≡ suc (dimensions (child_of t))
unfolding dimensions
dimensions-list t h = grind (arith, nat_tests)

pub dimensions-other : (t : Ty) → is_list (kind_of t) ≡ false → dimensions t ≡ 0
unfolding dimensions
dimensions-other t h = grind arith

-- a list within a list is one level deeper
dimensions-depth : (t : Ty) → dimensions t ≤ depth t
unfolding dimensions depth
dimensions-depth none = omega arith
dimensions-depth (node g c d) = let h = dimensions-depth c in grind arith

pub few_dimensions : (v : View) (n : ℕ) → dimensions (meant v n) ≤ deepest_type
few_dimensions v n = omega (arith, dimensions-depth (meant v n), flat v n)

-- the steps of a depth, and of a count of lists
pub ruleset depths = (flat, depth-none, depth-grown)

pub ruleset counts = (dimensions-list, dimensions-other, nat_tests)
