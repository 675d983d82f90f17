use Rattle.std.proofs.Common.{◌≡◌, ℕ, ◌<◌, Bor, List, [], length, get_or, ap, sym, ◌∙◌, arith, below_more}
use Rattle.std.proofs.lemmas.List.{get_or-map}
use Rattle.arguments.specs.declared.call.Call.{Call}
use Rattle.arguments.specs.Called.{params, name_of}
use Rattle.arguments.specs.Names.{Name, matches}
use Rattle.arguments.proofs.Firsts.{below_hit, none_below}
use Rattle.arguments.proofs.Whole.{many}
use Rattle.arguments.proofs.call.Call.parameter_index.Goals as goal

-- the parameter that is read is the one that the name is asked about
told : (call : Call) (n : Name) (k : ℕ) (d : Bor (List ℕ)) → k < length call.param_names.now → matches n (get_or (params call) k []) ≡ matches n (get_or call.param_names.now k d).now
told call n k d l = ap (matches n) (get_or-map (λ (p : Bor (List ℕ)). p.now) call.param_names.now k d [] l)

pub loop-k-init : goal.loop-k-init
loop-k-init c = λ j l. absurd (omega arith)

pub returns-then-matches : goal.returns-then-matches
returns-then-matches c =
    sym (below_hit _ _ c.loop-k.k (omega (arith, many c.args.self)) c.loop-k.invariant
    (told c.args.self (name_of c.args.name) c.loop-k.k _ (omega arith) ∙ sym c.matches.ensures ∙ c.if-matches.true))

pub loop-k-preserved : goal.loop-k-preserved
loop-k-preserved c = below_more _ _ c.loop-k.invariant (told c.args.self (name_of c.args.name) c.loop-k.k _ (omega arith) ∙ sym c.matches.ensures ∙ c.if-matches.false)

pub returns : goal.returns
returns c = sym (none_below _ _ (λ j l. c.loop-k.invariant j (omega (arith, many c.args.self))))
