use Rattle.std.proofs.Common.{◌≡◌, ◌++◌, drop, string_bytes}
use Rattle.arguments.specs.View.{bytes_of}
use Rattle.printing.specs.Printing.{pieces}
use Rattle.printing.proofs.placed_text.Given as goal

abbrev pub invariant-loop-place : goal.invariant-loop-place
invariant-loop-place l = string_bytes l.out ++ pieces (bytes_of l.params) l.place (drop l.place l.args) ≡ string_bytes l.initial.out ++ pieces (bytes_of l.params) 0 l.args
