use Rattle.std.proofs.Common.{vec_items, rules}
use Rattle.std.proofs.lemmas.Iterator.{YieldsList-from_slice, YieldsList-from_map_by}
use Rattle.std.proofs.lemmas.Iterator.Consumers.{map_from_collect, YieldsList-at}
use Rattle.session.specs.Known.{text_bytes}
use Rattle.session.proofs.function.Function.param_names.Goals as goal

pub returns : goal.returns
returns c =
    let line = c.args.self.now.line in
    map_from_collect c.collect.result c.collect.ensures.ran
    (YieldsList-from_map_by _ (λ r. r.now) (text_bytes (vec_items line.text)) (YieldsList-at c.map.ensures.source (YieldsList-from_slice (vec_items line.params) cc)) c.map.ensures.closure (λ x r q k. search rules))
