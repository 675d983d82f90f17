-- A line by its keyword, and arguments apart from their names. Assumes nothing.
use Rattle.std.proofs.Common.{◌≡◌, ℕ, List, [], ◌∷◌, map, length, vec_items, sym, refl, ap, ◌∙◌, subst}
use Rattle.std.proofs.lemmas.List.{length-map}
use Rattle.std.specs.List.{AllByRecursion}
use Rattle.script.specs.declared.tokens.Token.{Token}
use Rattle.script.specs.declared.items.Written.{Written}
use Rattle.script.specs.declared.lines.Keyword.{Keyword}
use Rattle.script.specs.declared.lines.Keyword.TheVariants as keyword
use Rattle.script.specs.declared.lines.ArgumentsLine.{ArgumentsLine}
use Rattle.script.specs.declared.lines.Line.TheVariants as line
use Rattle.script.specs.Spelling.{spelled_argument}
use Rattle.script.specs.Lines.{blank, function, arguments, Says, spelled_named, argument, name_in, paired, Found, Unspelled}

pub no_keyword : (text : List ℕ) (ts : List Token) (t : Token) (rest : List Token) → ts ≡ t ∷ rest → ((k : Keyword) → Says text t k → ⊥) → Unspelled text ts
no_keyword text ts t rest e n blank s = cc
no_keyword text ts t rest e n (function m ps) s = let z : s.0 ≡ t = cc s.2 in n keyword.Function (subst (λ x. Says text x keyword.Function) z s.1)
no_keyword text ts t rest e n (arguments m ws) s = let z : s.0 ≡ t = cc s.2 in n keyword.Arguments (subst (λ x. Says text x keyword.Arguments) z s.1)

paired-back : (ws : List Written) → paired (map argument ws) (map name_in ws) ≡ ws
paired-back [] = refl
paired-back (w ∷ ws) = ap (λ r. w ∷ r) (paired-back ws)

zeros : (ws : List Written) → AllByRecursion (λ x. x.type_number ≡ 0) (map argument ws)
zeros [] = tt
zeros (w ∷ ws) = (refl, zeros ws)

-- the arguments and the names together are what was written
pub arguments-found : (text : List ℕ) (t : Token) (rest : List Token) (ws : List Written) (a : ArgumentsLine) → Says text t keyword.Arguments → rest ≡ spelled_named spelled_argument a.name ws → vec_items a.args ≡ map argument ws → vec_items a.names ≡ map name_in ws → vec_items a.text ≡ text → Found text (t ∷ rest) (line.Arguments a)
arguments-found text t rest ws a s e p q o =
    let back : ws ≡ paired (vec_items a.args) (vec_items a.names) = sym ((λ i. paired (p i) (q i)) ∙ paired-back ws) in
    record {
      value = (t, s, ap (λ r. t ∷ r) (e ∙ ap (spelled_named spelled_argument a.name) back));
      len = (ap length q ∙ length-map ws name_in ∙ sym (ap length p ∙ length-map ws argument), subst (AllByRecursion (λ x. x.type_number ≡ 0)) (sym p) (zeros ws));
      own = o;
    }
