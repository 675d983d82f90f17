use Rattle.std.proofs.Common.{Option, not, is_some, None, ◌∙◌, rules, tests}
use Rattle.std.proofs.lemmas.Iterator.{YieldsList-from_slice}
use Rattle.std.proofs.lemmas.Iterator.Search.{position_from_yields_List}
use Rattle.arguments.specs.declared.written.ArgumentName.{ArgumentName}
use Rattle.arguments.proofs.Listed.{position_is}
use Rattle.arguments.proofs.first_unnamed.Goals as goal

pub returns-clause-value : goal.returns-clause-value
returns-clause-value c =
    let names = c.args.arg_names.now in
    let lacks = λ (o : Option ArgumentName). not (is_some o) in
    position_from_yields_List lacks _ _ _ c.position.ensures.ran (YieldsList-from_slice names cc) (λ x b q k. search (rules, tests)) ∙ position_is lacks names None
