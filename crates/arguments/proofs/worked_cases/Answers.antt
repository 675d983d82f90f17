use Rattle.std.proofs.Common.{refl}
use Rattle.arguments.specs.First.{first, count_below}
use Rattle.arguments.proofs.worked_cases.Goals as goal

pub returns : goal.returns
unfolding first count_below
returns c = record { value = refl; cases = (refl, (refl, (refl, (refl, (refl, (refl, tt)))))) }
