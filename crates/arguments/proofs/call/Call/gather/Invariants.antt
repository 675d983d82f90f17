use Rattle.std.proofs.Common.{◌≡◌, length}
use Rattle.arguments.proofs.Assigning.{AllStand}
use Rattle.arguments.proofs.call.Call.gather.Given as goal

abbrev pub invariant-loop-k : goal.invariant-loop-k
invariant-loop-k l = record { count : length l.items ≡ l.k; stand : AllStand l.places l.self.args.now l.items l.k }
