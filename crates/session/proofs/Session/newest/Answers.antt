use Rattle.std.proofs.Common.{vec_items, rules, tests, ◌∙◌, sym, ap}
use Rattle.std.proofs.lemmas.Iterator.Adapters.{YieldsList-from_rev_slice}
use Rattle.std.proofs.lemmas.Iterator.Search.{find_from_yields_List}
use Rattle.std.specs.Option.{option_map}
use Rattle.std.specs.Str.{bytes_eq}
use Rattle.session.specs.Known.{known}
use Rattle.session.proofs.Newest.{newest-find, known-seen}
use Rattle.session.proofs.Session.newest.Goals as goal

pub returns : goal.returns
returns c =
    let fs = vec_items c.args.self.now.functions in
    let e = find_from_yields_List (λ f. bytes_eq (known f).name c.args.name.now) _ _ c.find.result c.find.ensures.ran (YieldsList-from_rev_slice fs cc) (λ x b q k. search (rules, tests)) in
    known-seen c.find.result ∙ ap (option_map known) e ∙ sym (newest-find c.args.name.now fs)
