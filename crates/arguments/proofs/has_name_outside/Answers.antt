use Rattle.std.proofs.Common.{None, ◌∙◌, rules, tests}
use Rattle.std.proofs.lemmas.Iterator.{YieldsList-from_slice}
use Rattle.std.proofs.lemmas.Iterator.Search.{any_from_yields_List}
use Rattle.arguments.specs.Places.{outside}
use Rattle.arguments.proofs.Listed.{any_is}
use Rattle.arguments.proofs.has_name_outside.Goals as goal

pub returns : goal.returns
returns c =
    let names = c.args.arg_names.now in
    any_from_yields_List (outside c.args.text.now) _ _ _ c.any.ensures.ran (YieldsList-from_slice names cc) (λ x b q k. search (rules, tests)) ∙ any_is (outside c.args.text.now) names None
