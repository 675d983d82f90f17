-- Names as they are handed in, and as they are spelled in the text.
use Rattle.std.proofs.Common.{◌≡◌, ℕ, Bool, not, List, length, get_or, is_some, Some, None, Option, refl, ap, ◌∙◌}
use Rattle.std.proofs.Math.ListN.{get_or-map}
use Rattle.std.proofs.lemmas.List.{length-map}
use Rattle.std.specs.Option.{option_map}
use Rattle.arguments.specs.declared.written.ArgumentName.{ArgumentName}
use Rattle.arguments.specs.First.{when, first, any_below, count_below}
use Rattle.arguments.specs.Places.{named, late}
use Rattle.arguments.specs.View.{spell, spelled}
use Rattle.arguments.proofs.Firsts.{first_same, count_same}

named-at : (text : List ℕ) (o : Option ArgumentName) → is_some (option_map (spelled text) o) ≡ is_some o
named-at text None = refl
named-at text (Some n) = refl

pub spell-at : (text : List ℕ) (names : List (Option ArgumentName)) (i : ℕ) → get_or (spell text names) i None ≡ option_map (spelled text) (get_or names i None)
spell-at text names i = get_or-map (option_map (spelled text)) names i None

module _ (text : List ℕ) (names : List (Option ArgumentName)) where
  pub as_many : length (spell text names) ≡ length names
  as_many = length-map names (option_map (spelled text))

  pub named_spelled : (i : ℕ) → named (spell text names) i ≡ named names i
  named_spelled i = ap is_some (spell-at text names i) ∙ named-at text (get_or names i None)

  pub any_spelled : (n : ℕ) → any_below (named (spell text names)) n ≡ any_below (named names) n
  any_spelled n = ap is_some (first_same (λ k. when (named (spell text names) k) k) (λ k. when (named names k) k) n (λ k l. ap (λ (b : Bool). when b k) (named_spelled k)))

  pub late_spelled : (n : ℕ) → first (late (spell text names)) n ≡ first (late names) n
  late_spelled n = first_same (late (spell text names)) (late names) n (λ i l. rw (named_spelled i, any_spelled i))

  pub count_spelled : (n : ℕ) → count_below (λ i. not (named (spell text names) i)) n ≡ count_below (λ i. not (named names i)) n
  count_spelled n = count_same (λ i. not (named (spell text names) i)) (λ i. not (named names i)) n (λ k l. ap not (named_spelled k))
