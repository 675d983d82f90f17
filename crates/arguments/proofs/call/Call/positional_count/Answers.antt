use Rattle.std.proofs.Common.{◌≡◌, Option, not, is_some, None, count_by, ◌∙◌, rules}
use Rattle.arguments.specs.declared.written.ArgumentName.{ArgumentName}
use Rattle.arguments.proofs.Listed.{count_is}
use Rattle.arguments.proofs.call.Call.positional_count.Goals as goal

pub returns : goal.returns
returns c =
    let names = c.args.self.arg_names.now in
    let counted : c.count.result ≡ count_by (λ (o : Option ArgumentName). not (is_some o)) names = search rules in
    counted ∙ count_is (λ (o : Option ArgumentName). not (is_some o)) names None
