-- What a call has that is not malformed.
use Rattle.std.proofs.Common.{◌≡◌, ℕ, ◌+◌, ◌<◌, ◌≤◌, false, not, ◌||◌, eqb, ltb, List, length, get_or, IsNone, Some, None, Option, ap, sym, ◌∙◌}
use Rattle.std.proofs.lemmas.Bool.{or_parts, not-false, ltb-false, eqb-true}
use Rattle.terms.specs.Refusals.{refusal}
use Rattle.terms.specs.Limits.{most_arguments}
use Rattle.terms.specs.declared.Reason.TheVariants.{MalformedCall}
use Rattle.arguments.specs.declared.written.Argument.{Argument}
use Rattle.arguments.specs.declared.written.ArgumentName.{ArgumentName}
use Rattle.arguments.specs.First.{any_below}
use Rattle.arguments.specs.Places.{outside, malformed}
use Rattle.arguments.proofs.Firsts.{when-none, none-there, any_none}

module _ (text : List ℕ) (args : List Argument) (names : List (Option ArgumentName)) where
  pub well_formed : malformed text args names ≡ None → (length args ≤ most_arguments) × (length args ≡ length names) × ((i : ℕ) → i < length names → outside text (get_or names i None) ≡ false)
  well_formed e =
      let many = ltb most_arguments (length args) in
      let differ = not (eqb (length args) (length names)) in
      let out = any_below (λ i. outside text (get_or names i None)) (length names) in
      let p = or_parts many (differ || out) (when-none (many || (differ || out)) (refusal MalformedCall 0) e) in
      let q = or_parts differ out p.1 in
      (ltb-false most_arguments (length args) p.0, eqb-true (length args) (length names) (not-false (eqb (length args) (length names)) q.0), any_none (λ i. outside text (get_or names i None)) (length names) q.1)

  -- each name is within the text
  pub name_within : IsNone (malformed text args names) → (i : ℕ) → i < length names → (n : ArgumentName) → get_or names i None ≡ Some n → n.start + n.len ≤ length text
  name_within e i l n h =
      let inside = (well_formed (none-there (malformed text args names) e)).2 i l in
      ltb-false (length text) (n.start + n.len) (ap (outside text) (sym h) ∙ inside)

  -- there are no more arguments than a call has
  pub few : IsNone (malformed text args names) → length args ≤ most_arguments
  few e = (well_formed (none-there (malformed text args names) e)).0
