use Rattle.std.proofs.Common.{arith}
use Rattle.places.proofs.Found.{found, passed_more, passed_all}
use Rattle.places.proofs.finding.find.Goals as goal

pub returns-then-same : goal.returns-then-same
returns-then-same g c =
    found c.args.things.now c.args.thing.now c.loop-i.i c.index-things-i.result (omega arith) c.index-things-i.is (c.same.ensures.0 c.if-same.true)

pub loop-i-preserved : goal.loop-i-preserved
loop-i-preserved g c =
    passed_more c.args.things.now c.args.thing.now c.loop-i.i c.index-things-i.result c.same.result (omega arith) c.index-things-i.is c.if-same.false c.same.ensures c.loop-i.invariant

pub returns : goal.returns
returns g c = passed_all c.args.things.now c.args.thing.now c.loop-i.i (omega arith) c.loop-i.invariant
