use Rattle.std.proofs.Common.{refl}
use Rattle.script.specs.Tokens.{run}
use Rattle.script.specs.Whole.{comment}
use Rattle.script.proofs.reads.worked_lines.Goals as goal

pub returns : goal.returns
unfolding run comment
returns c = record { value = refl; cases = (refl, (refl, (refl, (refl, (refl, (refl, (refl, tt))))))) }
