-- The functions that are known, and what comes of the arguments for one. Assumes nothing.
use Rattle.std.specs.Prelude.{◌≡◌, ℕ, Bool, false, ◌||◌, List, [], ◌∷◌, ◌++◌, map, length, Some, None, Ok, Err, vec_items, string_bytes, Option, Result, String, MatchOption, nat_lt}
use Rattle.std.specs.declared.alloc.Global.{Global}
use Rattle.std.specs.Str.{bytes_eq}
use Rattle.terms.specs.Refusals.{refusal}
use Rattle.terms.specs.Limits.{longest_label, most_parameters}
use Rattle.terms.specs.declared.Reason.TheVariants.{LabelTooLong, BadFunction, UnknownFunction}
use Rattle.terms.specs.declared.Refusal.{Refusal}
use Rattle.arguments.specs.declared.written.Argument.{Argument}
use Rattle.arguments.specs.First.{or_else, when}
use Rattle.arguments.specs.Places.{Outcome}
use Rattle.arguments.specs.Resolution.{Resolution}
use Rattle.printing.specs.Printing.{placed_text}
use Rattle.script.specs.declared.items.Text.{Text}
use Rattle.script.specs.declared.lines.ArgumentsLine.{ArgumentsLine}
use Rattle.script.specs.declared.lines.FunctionLine.{FunctionLine}
use Rattle.script.specs.Seen.{bytes}
use Rattle.session.specs.declared.failure.Failure.{Failure}
use Rattle.session.specs.declared.failure.Failure.TheVariants.{Memory, Refused}
use Rattle.session.specs.declared.function.Function.{Function}
use Rattle.session.specs.declared.Session.{Session}

-- a function: its name and its parameters' names
pub record Known : Type 0 where
  pub name : List ℕ
  pub params : List (List ℕ)

-- the bytes of a word or a quoted text
abbrev pub text_bytes : List ℕ → Text → List ℕ
text_bytes text t = bytes text t.span

-- the function that a line writes
abbrev pub writes : List ℕ → FunctionLine → Known
writes text f = record { name = text_bytes text f.name; params = map (text_bytes text) (vec_items f.params) }

-- the function that was taken
abbrev pub known : Function → Known
known f = writes (vec_items f.line.text) f.line

-- the functions of a session, in their order
abbrev pub functions : Session → List Known
functions s = map known (vec_items s.functions)

-- a label of too many bytes
abbrev pub long : List ℕ → Bool
long label = nat_lt longest_label (length label)

-- one of the labels has too many bytes
unfoldable pub any_long : List (List ℕ) → Bool
any_long [] = false
any_long (l ∷ ls) = long l || any_long ls

-- 11 for a name that is too long, then 16 for too many parameters
abbrev pub unfit : Known → Option Refusal
unfit f = or_else (when (long f.name || any_long f.params) (refusal LabelTooLong 0)) (when (nat_lt most_parameters (length f.params)) (refusal BadFunction 0))

-- a function that is fit comes last, under the next number; else nothing changes
abbrev pub Adds : List Known → Known → Result ℕ Failure → List Known → Type 0
Adds fs f (Ok n) gs = (unfit f ≡ None) × (n ≡ length fs) × (gs ≡ fs ++ f ∷ [])
Adds fs f (Err (Refused e)) gs = (unfit f ≡ Some e) × (gs ≡ fs)
Adds fs f (Err Memory) gs = gs ≡ fs

-- the newest function of that name
unfoldable pub newest : List ℕ → List Known → Option Known
newest name [] = None
newest name (f ∷ fs) = or_else (newest name fs) (when (bytes_eq f.name name) f)

-- what the arguments of a line come to for a function
abbrev pub Comes : List ℕ → ArgumentsLine → Known → Outcome → Type 0
Comes text a f o = Resolution f.params text (vec_items a.args) (vec_items a.names) o

-- the text of the arguments by place, each under its parameter
abbrev pub Shows : List ℕ → ArgumentsLine → Known → List ℕ → Type 0
Shows text a f s = (answer : List Argument) × Comes text a f (Ok answer) × (s ≡ placed_text (text_bytes text a.name) f.params answer)

-- the newest function of the name and the text of the answer, or the refusal: 20 where no function has the name
abbrev pub Answers : List Known → List ℕ → ArgumentsLine → Result (String Global) Failure → Type 0
Answers fs text a (Ok s) = MatchOption (newest (text_bytes text a.name) fs) ⊥ (λ f. Shows text a f (string_bytes s))
Answers fs text a (Err (Refused e)) = MatchOption (newest (text_bytes text a.name) fs) (e ≡ refusal UnknownFunction 0) (λ f. Comes text a f (Err e))
Answers fs text a (Err Memory) = Unit {0}
