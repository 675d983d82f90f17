use Rattle.std.proofs.Common.{rules}
use Rattle.types.specs.Trees.{is_dictionary}
use Rattle.types.proofs.view.View.innermost_value.Goals as goal

pub returns : goal.returns
returns c = c.within.ensures is_dictionary (search rules)
