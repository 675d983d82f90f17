-- A longer text: earlier spans mean what they meant. Assumes nothing.
use Rattle.std.proofs.Common.{◌≡◌, ℕ, List, [], ◌∷◌, ◌++◌, map, length, refl, ap, arith, length-drop}
use Rattle.std.specs.List.{AllByRecursion}
use Rattle.std.proofs.lemmas.List.{drop-append-le, take-append-le}
use Rattle.script.specs.declared.tokens.Span.{Span}
use Rattle.script.specs.declared.tokens.Token.{Token}
use Rattle.script.specs.declared.tokens.Token.TheVariants.{Word, Quoted, Number, Open, Close, Comma, Arrow}
use Rattle.script.specs.Tokens as tokens
use Rattle.script.specs.Seen.{bytes, seen, Inside, Within}

bytes-grown : (text more : List ℕ) (s : Span) → Inside (length text) s → bytes (text ++ more) s ≡ bytes text s
bytes-grown text more s h = grind (arith, drop-append-le, take-append-le, length-drop)

seen-grown : (text more : List ℕ) (t : Token) → Within (length text) t → seen (text ++ more) t ≡ seen text t
seen-grown text more (Word s) h = ap tokens.word (bytes-grown text more s h)
seen-grown text more (Quoted s) h = ap tokens.quoted (bytes-grown text more s h)
seen-grown text more (Number n) h = refl
seen-grown text more Open h = refl
seen-grown text more Close h = refl
seen-grown text more Comma h = refl
seen-grown text more Arrow h = refl

-- a longer text keeps the meaning of every span within the shorter
pub all_grown : (text more : List ℕ) (ts : List Token) → AllByRecursion (Within (length text)) ts → map (seen (text ++ more)) ts ≡ map (seen text) ts
all_grown text more [] h = refl
all_grown text more (t ∷ ts) h = λ i. seen-grown text more t h.0 i ∷ all_grown text more ts h.1 i
