use Rattle.std.proofs.Common.{arith, rules}
use Rattle.std.proofs.lemmas.Grind.{common_steps}
use Rattle.arguments.proofs.Listed.{giver_there}
use Rattle.arguments.proofs.call.Call.claim_place.Goals as goal

pub returns-then-contains : goal.returns-then-contains
returns-then-contains c = let taken = giver_there c.args.places.now c.args.i (search rules) c.in_ok-place.place in grind (arith, common_steps)

pub returns : goal.returns
returns c = let free = giver_there c.args.places.now c.args.i (search rules) c.in_ok-place.place in grind (arith, common_steps)
