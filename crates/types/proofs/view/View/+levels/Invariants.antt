use Rattle.std.proofs.Common.{◌+◌, ◌*◌, max, cond}
use Rattle.terms.specs.Kinds.{has_child}
use Rattle.types.specs.Trees.{is_dictionary}
use Rattle.types.proofs.view.View.+levels.Given as goal

abbrev pub decreases-depth : goal.decreases-depth
decreases-depth l = 2 * l.n + 1

-- above each part that there is
abbrev pub decreases-levels_of : goal.decreases-levels_of
decreases-levels_of l = let r = l.r.now in 2 * max (cond (has_child r.kind) (r.child + 1) 0) (cond (is_dictionary r.kind) (r.second + 1) 0)
