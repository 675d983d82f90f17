-- From the tokens of a line to what its bytes say. Assumes nothing.
use Rattle.std.proofs.Common.{◌≡◌, ℕ, false, cond, List, [], map, length, Some, Ok, Err, vec_items, Result, sym, ap, ◌∙◌, subst}
use Rattle.script.specs.declared.fault.Fault.{Fault}
use Rattle.script.specs.declared.fault.Fault.TheVariants.{Memory, Stray, Escape, Large, Unfinished, Expected}
use Rattle.script.specs.declared.tokens.Tokens.{Tokens}
use Rattle.script.specs.declared.lines.Line.{Line}
use Rattle.script.specs.declared.lines.Line.TheVariants as line
use Rattle.script.specs.Tokens.{lex}
use Rattle.script.specs.Seen.{seen, Refuses, Expects, Listed}
use Rattle.script.specs.Lines.{form, line_text, Has, Lined}
use Rattle.script.specs.Whole.{comment, says, shown, LineInside, Answers}
use Rattle.script.proofs.Unmapping.{form_back, form-seen}
use Rattle.script.proofs.Insides.{inside}

-- what the tokens lack is refused
expected : (e : Fault) {P Q : Type 0} → (P → Q) → Expects e P → Refuses e Q
expected Memory f p = tt
expected (Stray q c) f p = absurd p
expected (Escape q c) f p = absurd p
expected (Large q) f p = absurd p
expected Unfinished f p = absurd p
expected (Expected what) f p = f p

-- no comment says what its tokens are
pub says-lex : (line : List ℕ) → false ≡ comment line → says line ≡ lex line
says-lex line e = ap (λ b. cond b (Some []) (lex line)) (sym e)

-- what the bytes say is shown through a text, and lies within it
abbrev Shows : List ℕ → Line → List ℕ → Type 0
Shows bytes l text = (says bytes ≡ Some (shown text (form l))) × LineInside (length text) l

-- the text is the line's own
owned : (bytes text : List ℕ) (l : Line) → Has text l → Shows bytes l text → Shows bytes l (line_text l)
owned bytes text line.Blank e s = s
owned bytes text (line.Function f) e s = subst (Shows bytes (line.Function f)) (sym e) s
owned bytes text (line.Arguments a) e s = subst (Shows bytes (line.Arguments a)) (sym e) s

-- what is promised of a line, from its tokens
pub answered : (bytes : List ℕ) (t : Tokens) (r : Result Line Fault) → false ≡ comment bytes → Listed (lex bytes) t → Lined (vec_items t.text) (vec_items t.tokens) r → Answers bytes r
answered bytes t (Ok l) n h f =
    let text = vec_items t.text in
    let ts = vec_items t.tokens in
    let s = owned bytes text l f.own (says-lex bytes n ∙ h.value ∙ ap Some (form-seen text (form l) ts f.value), inside text (length text) l ts h.within f.len f.value) in
    record { value = s.0; len = f.len; within = s.1 }
answered bytes t (Err e) n h u =
    let text = vec_items t.text in
    let ts = vec_items t.tokens in
    expected e (λ un other f s.
    let same : map (seen text) ts ≡ shown other f = cc (h.value, says-lex bytes n, s) in
    let g = form_back text other f ts same in
    un g.0 g.1) u
