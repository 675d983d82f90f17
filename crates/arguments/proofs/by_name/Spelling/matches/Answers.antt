use Rattle.std.proofs.Common.{map}
use Rattle.std.proofs.lemmas.Bool.Decides.{same_from_decides, Decides-eqb}
use Rattle.std.proofs.lemmas.Slice.Eq.{bytes_eq-Decides, slice_eq-Decides}
use Rattle.std.specs.Char.{to_ascii_lowercase}
use Rattle.arguments.proofs.by_name.Spelling.matches.Goals as goal

pub returns-then-self : goal.returns-then-self
returns-then-self c = rw c.if-self.true (same_from_decides _ _ (slice_eq-Decides Decides-eqb _ _ _ c.eq.ensures) (bytes_eq-Decides c.args.self.bytes.now c.args.param_name.now))

pub returns-else-self : goal.returns-else-self
returns-else-self c =
    rw c.if-self.false
    (same_from_decides _ _ c.eq_ignore_ascii_case.ensures.test (bytes_eq-Decides (map to_ascii_lowercase c.args.self.bytes.now) (map to_ascii_lowercase c.args.param_name.now)))
