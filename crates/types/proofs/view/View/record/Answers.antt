use Rattle.std.proofs.Common.{arith}
use Rattle.std.proofs.lemmas.Grind.{common_steps}
use Rattle.std.proofs.lemmas.Option.{gets}
use Rattle.types.proofs.Viewed.{told_record}
use Rattle.types.proofs.view.View.record.Goals as goal

pub returns-clause-stands : goal.returns-clause-stands
returns-clause-stands c = told_record c.args.self c.args.n c.copied.result (grind (arith, common_steps, gets))
