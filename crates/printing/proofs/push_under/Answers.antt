use Rattle.std.proofs.Common.{arith}
use Rattle.std.proofs.lemmas.Grind.{common_steps}
use Rattle.printing.proofs.Texts.{param_at}
use Rattle.printing.proofs.push_under.Goals as goal

pub returns-in_ok-push_str : goal.returns-in_ok-push_str
returns-in_ok-push_str c = rw (param_at c.args.params.now c.args.place c.get.result c.get.ensures.lookup) (grind (arith, common_steps))

pub returns-in_default : goal.returns-in_default
returns-in_default c = rw (param_at c.args.params.now c.args.place c.get.result c.get.ensures.lookup) (grind (arith, common_steps))
