-- A comment by its first byte that is no blank. Assumes nothing.
use Rattle.std.proofs.Common.{◌≡◌, ℕ, Bool, true, false, cond, not, eqb, List, [], ◌∷◌, Some, refl}
use Rattle.std.specs.List.{find}
use Rattle.std.specs.Option.{option_eq}
use Rattle.script.specs.Whole.{is_blank, comment}

step : (b : ℕ) (line : List ℕ) (t : Bool) → comment line ≡ option_eq eqb (find (λ x. not (is_blank x)) line) (Some 35)
    → cond t (comment line) (eqb b 35) ≡ option_eq eqb (cond (not t) (Some b) (find (λ x. not (is_blank x)) line)) (Some 35)
step b line true e = e
step b line false e = refl

pub comment-find : (line : List ℕ) → comment line ≡ option_eq eqb (find (λ b. not (is_blank b)) line) (Some 35)
unfolding comment
comment-find [] = refl
comment-find (b ∷ line) = step b line (is_blank b) (comment-find line)
