use Rattle.std.proofs.Common.{arith}
use Rattle.std.proofs.lemmas.Bool.Decides.{nat_tests}
use Rattle.types.proofs.Viewed.{key_integer}
use Rattle.types.proofs.view.View.key.Goals as goal

pub returns-clause-integer : goal.returns-clause-integer
returns-clause-integer c = let k = key_integer c.args.self c.args.n c.in_ok-second_child.ensures.below.0 in grind (arith, nat_tests)
