use Rattle.std.proofs.Common.{◌++◌, take, ap, ◌∙◌}
use Rattle.std.proofs.lemmas.List.{take_all}
use Rattle.terms.specs.Limits.{most_arguments}
use Rattle.arguments.proofs.Formed.{few}
use Rattle.arguments.proofs.call.Call.as_written.Goals as goal

pub returns-clause-value : goal.returns-clause-value
returns-clause-value c = c.extend_from_slice.ensures ∙ ap (λ xs. take most_arguments (xs ++ c.args.self.args.now)) c.requires ∙ take_all most_arguments c.args.self.args.now (few _ _ _ c.args.self.well_formed)
