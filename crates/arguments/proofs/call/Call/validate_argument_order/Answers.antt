use Rattle.std.proofs.Common.{arith}
use Rattle.std.proofs.lemmas.Grind.{common_steps}
use Rattle.arguments.proofs.Late.{none_late_behind, late_behind}
use Rattle.arguments.proofs.call.Call.validate_argument_order.Goals as goal

pub returns-in-Some : goal.returns-in-Some
returns-in-Some c = rw c.at.ensures (late_behind c.args.self.arg_names.now _ c.requires.value _ (grind (arith, common_steps)) _ c.in-Some.ensures.value)

pub returns-in-None : goal.returns-in-None
returns-in-None c = none_late_behind c.args.self.arg_names.now _ c.requires.value _ (grind (arith, common_steps)) c.in-None.ensures.value
