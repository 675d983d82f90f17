use Rattle.std.proofs.Common.{arith}
use Rattle.std.proofs.lemmas.Grind.{common_steps}
use Rattle.fixed.proofs.Blanks.{blanks-behind}
use Rattle.fixed.proofs.FixedVec.from_slice.Goals as goal

pub invariant_of-result : goal.invariant_of-result
invariant_of-result g c = grind (arith, common_steps, blanks-behind)
