-- The ways through the whole resolution, and what is promised of it.
use Rattle.std.proofs.Common.{◌≡◌, ℕ, ◌≤◌, true, false, not, ltb, List, length, Some, None, Ok, Err, Option, sym, refl, ap, ◌∙◌, subst, arith, Bor}
use Rattle.std.proofs.lemmas.Bool.{le-ltb}
use Rattle.std.proofs.lemmas.List.{length-map}
use Rattle.terms.specs.declared.Refusal.{Refusal}
use Rattle.arguments.specs.declared.written.Argument.{Argument}
use Rattle.arguments.specs.declared.written.ArgumentName.{ArgumentName}
use Rattle.arguments.specs.declared.call.Call.{Call}
use Rattle.arguments.specs.Called.{params, names}
use Rattle.arguments.specs.First.{first, any_below, count_below}
use Rattle.arguments.specs.Names.{Name}
use Rattle.arguments.specs.Orders.{Alike}
use Rattle.arguments.specs.Gathering.{Assigned, gathered}
use Rattle.arguments.specs.Places.{Outcome, malformed, named, late, clash, with_names, resolves}
use Rattle.arguments.specs.Resolution.{Resolution}
use Rattle.arguments.specs.Standing.{Exactly}
use Rattle.arguments.proofs.Assigning.{same_gathered}
use Rattle.arguments.proofs.Exact.{exact}
use Rattle.arguments.proofs.Firsts.{none-there}
use Rattle.arguments.proofs.Formed.{well_formed}
use Rattle.arguments.proofs.Only.{only}
use Rattle.arguments.proofs.Orderly.{alike}
use Rattle.arguments.proofs.Spelling.{as_many, any_spelled, late_spelled, count_spelled}

pub lawful : (params : List (List ℕ)) (text : List ℕ) (args : List Argument) (names : List (Option ArgumentName)) (o : Outcome) → o ≡ resolves params text args names → Resolution params text args names o
lawful params text args names o e = record {
  value = e;
  stands = subst (Exactly params text args names) (sym e) (exact params text args names);
  only = λ q h. only params text args names (resolves params text args names) q (exact params text args names) h ∙ sym e;
  alike = λ args' names' r. subst (λ (x : Outcome). Alike x (resolves params text args' names')) (sym e) (alike params text r);
}

module _ (call : Call) where
  abbrev ps : List (List ℕ)
  ps = params call

  abbrev ns : List (Option Name)
  ns = names call

  abbrev text : List ℕ
  text = call.text.now

  -- the names as they are handed in, and how many arguments have none
  abbrev given : List (Option ArgumentName)
  given = call.arg_names.now

  abbrev positional : ℕ
  positional = count_below (λ i. not (named given i)) (length given)

  as_named : length ns ≡ length given
  as_named = as_many text given

  formed : malformed text call.args.now given ≡ None
  formed = none-there (malformed text call.args.now given) call.well_formed

  counted : count_below (λ i. not (named ns i)) (length ns) ≡ positional
  counted = ap (count_below (λ i. not (named ns i))) as_named ∙ count_spelled text given (length given)

  pub many : length ps ≡ length call.param_names.now
  many = length-map call.param_names.now (λ (p : Bor (List ℕ)). p.now)

  -- the ends of the reordering
  module _ (l : positional ≤ length call.param_names.now) where
    fits : ltb (length ps) (count_below (λ i. not (named ns i)) (length ns)) ≡ false
    fits = le-ltb (length ps) (count_below (λ i. not (named ns i)) (length ns)) (omega (arith, counted, many))

    pub clash_so : (e : Refusal) → Some e ≡ first (clash ps ns) (length given) → Err e ≡ with_names ps ns call.args.now
    clash_so e h = rw (fits, as_named, ← h) refl

    pub gathered_so : None ≡ first (clash ps ns) (length given) → (places : List ℕ) → Assigned ps ns (length given) places → (o : Outcome) → o ≡ gathered places call.args.now → o ≡ with_names ps ns call.args.now
    gathered_so h places a o q =
        q ∙ same_gathered ps ns places call.args.now (rw as_named a) ((well_formed text call.args.now given formed).1 ∙ sym as_named) ∙ sym (rw (fits, as_named, ← h) refl)

  -- the ends of the whole
  abbrev outcome : Outcome
  outcome = resolves ps text call.args.now given

  any_named : any_below (named ns) (length ns) ≡ any_below (named given) (length given)
  any_named = ap (any_below (named ns)) as_named ∙ any_spelled text given (length given)

  pub unnamed_so : false ≡ any_below (named given) (length given) → Ok call.args.now ≡ outcome
  unnamed_so h = rw (formed, any_named, ← h) refl

  module _ (h : true ≡ any_below (named given) (length given)) where
    none_late : first (late ns) (length ns) ≡ first (late given) (length given)
    none_late = ap (first (late ns)) as_named ∙ late_spelled text given (length given)

    pub late_so : (e : Refusal) → Some e ≡ first (late given) (length given) → Err e ≡ outcome
    late_so e l = rw (formed, any_named, ← h, none_late, ← l) refl

    pub reordered_so : None ≡ first (late given) (length given) → with_names ps ns call.args.now ≡ outcome
    reordered_so l = rw (formed, any_named, ← h, none_late, ← l) refl
