use Rattle.script.proofs.Answering.{answered}
use Rattle.script.proofs.reads.read_line.Goals as goal

pub returns-clause-cases : goal.returns-clause-cases
returns-clause-cases c = answered _ _ _ c.if-is_comment.ensures c.in_ok-tokens_of.ensures.cases c.line_of.ensures
