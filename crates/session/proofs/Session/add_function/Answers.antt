use Rattle.std.proofs.Common.{map, vec_items, rules, sym, ap, ◌∙◌}
use Rattle.std.proofs.lemmas.List.{length-map, map_push}
use Rattle.session.specs.Known.{known}
use Rattle.session.proofs.Session.add_function.Goals as goal

pub returns : goal.returns
returns c =
    let fs = vec_items c.args.self.now.functions in (
      sym c.in_ok-check.ensures,
      c.len-number.ensures ∙ c.args.self.now.functions.ok.0 ∙ sym (length-map fs known),
      ap (map known) c.in_ok-push.ensures.items ∙ map_push known fs _ ∙ search rules,
    )
