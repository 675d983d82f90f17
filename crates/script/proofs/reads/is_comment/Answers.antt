use Rattle.std.proofs.Common.{not, rules, tests}
use Rattle.std.proofs.lemmas.Iterator.Adapters.{option_map_id}
use Rattle.std.proofs.lemmas.Iterator.{YieldsList-from_slice}
use Rattle.std.proofs.lemmas.Iterator.Consumers.{YieldsList-from_copied, YieldsList-at}
use Rattle.std.proofs.lemmas.Iterator.Search.{find_from_yields_List}
use Rattle.script.specs.Whole.{is_blank}
use Rattle.script.proofs.Comments.{comment-find}
use Rattle.script.proofs.reads.is_comment.Goals as goal

pub returns : goal.returns
returns c =
    let e = find_from_yields_List (λ b. not (is_blank b)) _ _ c.find.result c.find.ensures.ran (YieldsList-from_copied (YieldsList-at c.copied.ensures.source (YieldsList-from_slice c.args.line.now cc))) (λ x b q k. search (rules, tests)) in
    rw (comment-find c.args.line.now, ← e, option_map_id) c.eq.ensures
