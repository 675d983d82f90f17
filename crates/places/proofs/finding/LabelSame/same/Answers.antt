use Rattle.std.proofs.lemmas.Slice.Eq.{slice_eq-Decides}
use Rattle.places.proofs.Tells.{labels-decide}
use Rattle.places.proofs.finding.LabelSame.same.Goals as goal
use Rattle.std.proofs.lemmas.Bool.Decides.{Decides-eqb}

pub returns : goal.returns
returns c =
    labels-decide c.args.self.now c.args.other.now _ _ c.eq.result c.as_bytes.ensures c.as_bytes-2.ensures (slice_eq-Decides Decides-eqb _ _ _ c.eq.ensures)
