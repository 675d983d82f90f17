use Rattle.places.proofs.Found.{Passed}
use Rattle.places.proofs.finding.find.Given as goal

abbrev pub invariant-loop-i : goal.invariant-loop-i
invariant-loop-i g l = Passed l.things l.thing l.i
