use Rattle.arguments.specs.Called.{params, names}
use Rattle.arguments.specs.Gathering.{Assigned}
use Rattle.arguments.specs.Places.{clash}
use Rattle.arguments.proofs.Firsts.{Quiet}
use Rattle.arguments.proofs.call.Call.assign_places.Given as goal

abbrev pub invariant-loop-i : goal.invariant-loop-i
invariant-loop-i l = Quiet (clash (params l.self) (names l.self)) l.i × Assigned (params l.self) (names l.self) l.i l.places
