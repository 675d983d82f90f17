use Rattle.std.proofs.Common.{◌≡◌}
use Rattle.pool.specs.Steps.{held}
use Rattle.pool.specs.Laws.{Grows}
use Rattle.together.specs.Together.{AllThere}
use Rattle.together.proofs.add_all.Given as goal

abbrev pub invariant-loop-r : goal.invariant-loop-r
invariant-loop-r l = record {
  grows : Grows l.r-index l.fn.memory l.fn.counts l.memory (held l.trial);
  there : AllThere l.memory (held l.trial) l.records l.r-index;
  start : l.trial.start ≡ l.initial.trial.start;
  lent : l.trial.counts.ghost_name ≡ l.initial.trial.counts.ghost_name;
}
