-- The machine byte after byte along a line, and where it ends. Assumes nothing.
use Rattle.std.proofs.Common.{◌≡◌, ℕ, ◌+◌, ◌<◌, ◌≤◌, List, [], ◌∷◌, ◌++◌, length, get_or, take, IfErr, Some, None, Ok, Err, Result, refl, take-append-drop}
use Rattle.std.proofs.lemmas.List.{take_more, drop_more, take_all}
use Rattle.script.specs.declared.fault.Fault.{Fault}
use Rattle.script.specs.declared.fault.Fault.TheVariants.{Memory, Stray, Escape, Large, Unfinished, Expected}
use Rattle.script.specs.declared.tokens.Tokens.{Tokens}
use Rattle.script.specs.Tokens.{State, at, nothing, step, run, and_then, finish, lex}
use Rattle.script.specs.Seen.{Refuses, Expects, Faulty, Ends}
use Rattle.script.specs.Lexing.{Blames, Unended, Finishes}

pub expects_more : (e : Fault) {P Q : Type 0} → (P → Q) → Expects e P → Expects e Q
expects_more Memory f p = tt
expects_more (Stray place byte) f p = p
expects_more (Escape place byte) f p = p
expects_more (Large place) f p = p
expects_more Unfinished f p = p
expects_more (Expected what) f p = f p

-- the state where a line begins
abbrev start : State
start = at [] nothing

run-parts : (s : State) (a b : List ℕ) → run s (a ++ b) ≡ and_then (run s a) (λ t. run t b)
unfolding run
run-parts s [] b = refl
run-parts s (x ∷ a) b =
    elim (step s x) as (λ o. and_then o (λ t. run t (a ++ b)) ≡ and_then (and_then o (λ t. run t a)) (λ t. run t b)) [ None ↦ refl | Some t ↦ run-parts t a b ]

-- one turn of the loop, which goes on
pub turn : (line : List ℕ) (i : ℕ) (s t : State) → i < length line → step s (get_or line i 0) ≡ Some t → run start (take i line) ≡ Some s → run start (take (i + 1) line) ≡ Some t
unfolding run
turn line i s t h e inv = rw (take_more line i 0 h, run-parts start (take i line), inv, e)

-- a line whose byte at i the machine does not take has no tokens
stops : (line : List ℕ) (i : ℕ) (s : State) → i < length line → step s (get_or line i 0) ≡ None → run start (take i line) ≡ Some s → lex line ≡ None
unfolding run
stops line i s h e inv =
    rw (← take-append-drop i line, drop_more line i 0 h, run-parts start (take i line), inv, e)

-- what a byte that is not taken says of the line
blamed : (line : List ℕ) (i : ℕ) (s : State) (e : Fault) → i < length line → run start (take i line) ≡ Some s → Blames (record { place = i; byte = get_or line i 0 }) e (step s (get_or line i 0) ≡ None) → Refuses e (lex line ≡ None) × Faulty line e
blamed line i s Memory h inv b = (tt, tt)
blamed line i s (Stray q c) h inv b = (stops line i s h b.2 inv, rw b.0 ((h, (s, inv, b.2)), b.1))
blamed line i s (Escape q c) h inv b = (stops line i s h b.2 inv, rw b.0 ((h, (s, inv, b.2)), b.1))
blamed line i s (Large q) h inv b = (stops line i s h b.1 inv, rw b.0 (h, (s, inv, b.1)))
blamed line i s Unfinished h inv b = absurd b
blamed line i s (Expected what) h inv b = absurd b

-- what is promised of a line that is cut
abbrev pub Cut : List ℕ → Result Tokens Fault → Type 0
Cut line r = Ends r (lex line) × IfErr r (Faulty line)

pub broken : (line : List ℕ) (i : ℕ) (s : State) (r : Result Tokens Fault) (e y : Fault) → r ≡ Err y → y ≡ e → i < length line → run start (take i line) ≡ Some s → Blames (record { place = i; byte = get_or line i 0 }) e (step s (get_or line i 0) ≡ None) → Cut line r
broken line i s r e y p q h inv f = rw (p, q) (blamed line i s e h inv f)

unended : (line : List ℕ) (s : State) (e : Fault) → run start line ≡ Some s → Unended e (finish s ≡ None) → Refuses e (lex line ≡ None) × Faulty line e
unended line s Memory h u = (tt, tt)
unended line s (Stray q c) h u = absurd u
unended line s (Escape q c) h u = absurd u
unended line s (Large q) h u = absurd u
unended line s Unfinished h u = (rw h u, (s, h, u))
unended line s (Expected what) h u = absurd u

-- the whole line is taken
pub whole : (line : List ℕ) (i : ℕ) (s : State) (r : Result Tokens Fault) → length line ≤ i → run start (take i line) ≡ Some s → Finishes r (finish s) → Cut line r
whole line i s (Ok t) h inv f =
    let all : run start line ≡ Some s = rw (take_all i line h) at inv in
    (record { value = rw all f.value; within = f.within }, tt)
whole line i s (Err e) h inv f = unended line s e (rw (take_all i line h) at inv) f
