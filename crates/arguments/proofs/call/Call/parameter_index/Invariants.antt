use Rattle.std.proofs.Common.{[], get_or}
use Rattle.arguments.specs.Called.{params, name_of}
use Rattle.arguments.specs.Names.{matches}
use Rattle.arguments.proofs.Firsts.{NoneBefore}
use Rattle.arguments.proofs.call.Call.parameter_index.Given as goal

abbrev pub invariant-loop-k : goal.invariant-loop-k
invariant-loop-k l = NoneBefore (λ k. matches (name_of l.name) (get_or (params l.self) k [])) l.k l.k
