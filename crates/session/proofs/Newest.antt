-- The newest function of a name, found from the back. Assumes nothing.
use Rattle.std.proofs.Common.{◌≡◌, ℕ, Bool, true, false, cond, List, [], ◌∷◌, map, Some, None, Option, reverse, sym, refl, ap, ◌∙◌, Bor}
use Rattle.std.proofs.lemmas.List.{reverse-append}
use Rattle.std.proofs.lemmas.List.Folds.{find-append}
use Rattle.std.specs.List.{find}
use Rattle.std.specs.Option.{option_map, option_or}
use Rattle.std.specs.Str.{bytes_eq}
use Rattle.arguments.specs.First.{or_else, when}
use Rattle.session.specs.Known.{known, newest}
use Rattle.session.specs.declared.function.Function.{Function}

either : (o : Option Function) (b : Bool) (f : Function) → or_else (option_map known o) (when b (known f)) ≡ option_map known (option_or o (cond b (Some f) None))
either None true f = refl
either None false f = refl
either (Some g) b f = refl

-- the newest is the first from the back
pub newest-find : (name : List ℕ) (fs : List Function) → newest name (map known fs) ≡ option_map known (find (λ f. bytes_eq (known f).name name) (reverse fs))
unfolding newest
newest-find name [] = refl
newest-find name (f ∷ fs) =
    let is : Function → Bool = λ g. bytes_eq (known g).name name in
    ap (λ o. or_else o (when (is f) (known f))) (newest-find name fs)
    ∙ either (find is (reverse fs)) (is f) f
    ∙ ap (option_map known) (sym (ap (find is) (reverse-append (f ∷ []) fs) ∙ find-append is (reverse fs) (f ∷ [])))

pub known-seen : (o : Option (Bor Function)) → option_map (λ f. known f.now) o ≡ option_map known (option_map (λ f. f.now) o)
known-seen None = refl
known-seen (Some f) = refl
