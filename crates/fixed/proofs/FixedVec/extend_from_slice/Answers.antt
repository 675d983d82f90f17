use Rattle.std.proofs.Common.{refl, ◌∙◌, arith, rules}
use Rattle.fixed.proofs.Extending.{extended, extended-size, blanks-left}
use Rattle.fixed.proofs.FixedVec.extend_from_slice.Goals as goal

pub invariant_of-self : goal.invariant_of-self
invariant_of-self g c =
    let i = c.self.invariant in
    let more = c.min-more.ensures in (
      omega (arith, i.0, more),
      extended-size c.self.inside.items c.args.things.now _ c.self.inside.len _ c.min-more.result _ i.0 i.1 (omega (arith, more)) refl (search rules),
      blanks-left c.self.inside.items c.args.things.now _ c.self.inside.len _ c.min-more.result _ i.0 i.1 (omega (arith, more)) refl (search rules) _ i.2,
    )

pub returns : goal.returns
returns g c =
    let i = c.self.invariant in
    let more = c.min-more.ensures in
    extended c.self.inside.items c.args.things.now _ c.self.inside.len _ c.min-more.result _ i.0 i.1 (omega (arith, more)) refl (search rules) ∙ search rules
