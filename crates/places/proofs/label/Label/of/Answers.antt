use Rattle.std.proofs.Common.{◌∙◌}
use Rattle.std.proofs.lemmas.List.{take_all}
use Rattle.terms.specs.Limits.{longest_label}
use Rattle.places.proofs.label.Label.of.Goals as goal

pub returns : goal.returns
returns c = c.from_slice.ensures ∙ take_all longest_label c.args.text.now c.requires
