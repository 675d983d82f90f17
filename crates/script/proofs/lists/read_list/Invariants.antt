use Rattle.std.proofs.Common.{length, vec_items}
use Rattle.script.proofs.Reading.{Reading}
use Rattle.script.proofs.lists.read_list.Given as goal

abbrev pub invariant-loop-items : goal.invariant-loop-items
invariant-loop-items g l = Reading g.T.Item.spelled l.tokens (vec_items l.items) l.rest

abbrev pub decreases-loop-items : goal.decreases-loop-items
decreases-loop-items g l = length l.rest
