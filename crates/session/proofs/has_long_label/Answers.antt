use Rattle.std.proofs.Common.{vec_items, rules, tests}
use Rattle.std.proofs.lemmas.Iterator.{YieldsList-from_slice}
use Rattle.std.proofs.lemmas.Iterator.Search.{any_from_yields_List}
use Rattle.session.specs.Known.{long, text_bytes}
use Rattle.session.proofs.Labels.{any_long-map}
use Rattle.session.proofs.has_long_label.Goals as goal

pub returns-else-is_long : goal.returns-else-is_long
returns-else-is_long c =
    let line = c.args.line.now in
    let bytes = text_bytes c.args.text.now in
    let any = any_from_yields_List (λ t. long (bytes t)) _ _ c.any.result c.any.ensures.ran (YieldsList-from_slice (vec_items line.params) cc) (λ x b q k. search (rules, tests)) in
    rw (any_long-map bytes (vec_items line.params), ← any) (search rules)
