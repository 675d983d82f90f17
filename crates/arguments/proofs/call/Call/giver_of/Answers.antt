use Rattle.std.proofs.Common.{◌≤◌, eqb, length, take, ◌∙◌, rules, tests}
use Rattle.std.proofs.lemmas.Iterator.{YieldsList-from_slice}
use Rattle.std.proofs.lemmas.Iterator.Search.{position_from_yields_List}
use Rattle.arguments.proofs.Listed.{position_is, giver_taken}
use Rattle.arguments.proofs.call.Call.giver_of.Goals as goal

pub returns-clause-value : goal.returns-clause-value
returns-clause-value c =
    let n = length c.args.self.args.now in
    let ps = take n c.args.places.now in
    let few : n ≤ length c.args.places.now = search rules in
    position_from_yields_List (λ p. eqb p c.args.k) _ _ _ c.position.ensures.ran (YieldsList-from_slice ps (search rules)) (λ x b q k. search (rules, tests))
    ∙ position_is (λ p. eqb p c.args.k) ps 0
    ∙ giver_taken c.args.places.now n few c.args.k
