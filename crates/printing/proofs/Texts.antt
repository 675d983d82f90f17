-- A text, one piece on and at its end.
use Rattle.std.proofs.Common.{◌≡◌, ℕ, zero, suc, ◌+◌, ◌<◌, ◌≤◌, true, ◌&&◌, List, [], ◌∷◌, ◌++◌, length, get_or, drop, Some, None, Option, sym, refl, ap, ◌∙◌, arith, Bor}
use Rattle.std.proofs.lemmas.Bool.Decides.{nat_tests}
use Rattle.std.proofs.lemmas.Bool.{and_parts}
use Rattle.std.proofs.lemmas.List.Recursion.{same_from_clauses}
use Rattle.std.proofs.lemmas.List.{append-nil, append_assoc, drop_all, at_drop_more}
use Rattle.std.proofs.lemmas.Option.{slice_get-map, slice_get_past, slice_get_read}
use Rattle.std.proofs.lemmas.Str.{IsUtf8-from_ascii}
use Rattle.std.specs.List.{list_all, slice_get}
use Rattle.std.specs.Option.{option_map}
use Rattle.std.specs.Slice.{IsItemAt}
use Rattle.std.specs.Str.{IsAscii, IsUtf8}
use Rattle.arguments.specs.View.{bytes_of}
use Rattle.arguments.specs.declared.written.Argument.{Argument}
use Rattle.printing.specs.Printing.{word_byte, word_bytes, begun, is_word, piece, pieces}

-- the bytes of a word
pub word_bytes-all : (label : List ℕ) → word_bytes label ≡ list_all word_byte label
unfolding word_bytes
word_bytes-all = same_from_clauses word_bytes (list_all word_byte) (λ b t. word_byte b && t) refl (λ _ _. refl) (λ _ _. refl)

word_small : (b : ℕ) → word_byte b ≡ true → b < 128
word_small b e = grind (arith, nat_tests)

pub word_ascii : (label : List ℕ) → word_bytes label ≡ true → IsAscii label
unfolding word_bytes
word_ascii [] e i = omega arith
word_ascii (b ∷ bs) e zero = word_small b (and_parts (word_byte b) (word_bytes bs) e).0
word_ascii (b ∷ bs) e (suc i) = word_ascii bs (and_parts (word_byte b) (word_bytes bs) e).1 i

pub word_utf8 : (label : List ℕ) → is_word label ≡ true → IsUtf8 label
word_utf8 label e = IsUtf8-from_ascii label (word_ascii label (and_parts (begun label) (word_bytes label) e).1)

-- the arguments from place k on are the one there and the rest
pieces_step : (params : List (List ℕ)) (args : List Argument) (k : ℕ) (a : Argument) → k < length args → pieces params k (drop k args) ≡ piece params k (get_or args k a) ++ pieces params (k + 1) (drop (k + 1) args)
unfolding pieces
pieces_step params args k a l = at_drop_more (pieces params k) args k a l

pieces_past : (params : List (List ℕ)) (args : List Argument) (k : ℕ) → length args ≤ k → pieces params k (drop k args) ≡ []
unfolding pieces
pieces_past params args k l = rw (drop_all k args l)

-- what is left loses its first piece as the text gains it
pub pieces_more : (params : List (List ℕ)) (args : List Argument) (k : ℕ) (a : Argument) (s t whole : List ℕ) → k < length args → t ≡ s ++ piece params k (get_or args k a) → s ++ pieces params k (drop k args) ≡ whole → t ++ pieces params (k + 1) (drop (k + 1) args) ≡ whole
pieces_more params args k a s t whole l p h =
    let rest = pieces params (k + 1) (drop (k + 1) args) in
    ap (λ y. y ++ rest) p ∙ append_assoc s (piece params k (get_or args k a)) rest ∙ ap (λ y. s ++ y) (sym (pieces_step params args k a l)) ∙ h

pub pieces_all : (params : List (List ℕ)) (args : List Argument) (k : ℕ) (s whole : List ℕ) → length args ≤ k → s ++ pieces params k (drop k args) ≡ whole → s ≡ whole
pieces_all params args k s whole l h = sym (append-nil s) ∙ ap (λ y. s ++ y) (sym (pieces_past params args k l)) ∙ h

-- the parameter at a place
pub param_at : (ps : List (Bor (List ℕ))) (k : ℕ) (r : Option (Bor (Bor (List ℕ)))) → IsItemAt ps k r → slice_get (bytes_of ps) k ≡ option_map (λ p. p.now.now) r
param_at ps k None h = slice_get-map (λ p. p.now) ps k ∙ ap (option_map (λ p. p.now)) (slice_get_past ps k h.3)
param_at ps k (Some x) h = slice_get-map (λ p. p.now) ps k ∙ ap (option_map (λ p. p.now)) (slice_get_read ps (length ps) k x.now refl h.3.0 h.1)
