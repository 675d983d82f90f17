use Rattle.std.proofs.Common.{◌≡◌, [], take, Some}
use Rattle.script.specs.Tokens.{at, nothing, run}
use Rattle.script.specs.Lexing.{state}
use Rattle.script.proofs.tokens.tokens_of.Given as goal

abbrev pub invariant-loop-place : goal.invariant-loop-place
invariant-loop-place l = run (at [] nothing) (take l.place l.line) ≡ Some (state l.lexer)
