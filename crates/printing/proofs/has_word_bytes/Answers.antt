use Rattle.std.proofs.Common.{rules, tests, sym, ◌∙◌}
use Rattle.std.proofs.lemmas.Iterator.{YieldsList-from_slice}
use Rattle.std.proofs.lemmas.Iterator.Search.{all_from_yields_List}
use Rattle.printing.specs.Printing.{word_byte}
use Rattle.printing.proofs.Texts.{word_bytes-all}
use Rattle.printing.proofs.has_word_bytes.Goals as goal

pub returns : goal.returns
returns c =
    all_from_yields_List word_byte _ _ _ c.all.ensures.ran (YieldsList-from_slice c.args.label.now cc) (λ x b q k. search (rules, tests))
    ∙ sym (word_bytes-all c.args.label.now)
