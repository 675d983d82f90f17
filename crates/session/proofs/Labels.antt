-- Labels that are too long. Assumes nothing.
use Rattle.std.proofs.Common.{◌≡◌, ℕ, ◌||◌, List, [], ◌∷◌, map, refl, ap}
use Rattle.std.specs.List.{list_any}
use Rattle.session.specs.Known.{long, any_long}

pub any_long-map : {X : Type 0} (f : X → List ℕ) (xs : List X) → any_long (map f xs) ≡ list_any (λ x. long (f x)) xs
unfolding any_long
any_long-map f [] = refl
any_long-map f (x ∷ xs) = ap (λ b. long (f x) || b) (any_long-map f xs)
