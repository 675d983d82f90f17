use Rattle.std.proofs.Common.{arith}
use Rattle.types.proofs.Steps.{within_go, within_stay}
use Rattle.types.proofs.view.View.+within.Goals as goal

pub returns-in-Some-Some : goal.returns-in-Some-Some
returns-in-Some-Some g t c = λ p h. grind (arith, within_go, h.told, c.within.ensures p h)

pub returns-in_default : goal.returns-in_default
returns-in_default g t c = λ p h. grind (arith, within_stay, h.told, h.made)
