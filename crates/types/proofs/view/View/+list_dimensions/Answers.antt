use Rattle.std.proofs.Common.{arith}
use Rattle.types.proofs.Steps.{dimensions-list, few_dimensions}
use Rattle.types.proofs.view.View.+list_dimensions.Goals as goal

pub returns-in-Some-clause-bound : goal.returns-in-Some-clause-bound
returns-in-Some-clause-bound t c = let f = few_dimensions c.args.self c.args.n in grind (arith, dimensions-list)
