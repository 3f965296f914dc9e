use Rattle.std.proofs.Common.{◌≡◌, ap, ◌∙◌}
use Rattle.wildcard_lang.specs.Neighbours.{edge, neighbour_bits}
use Rattle.wildcard_lang.proofs.Neighbours.{covering_marks}
use Rattle.wildcard_lang.proofs.marked.MarkedPattern.covers.Goals as goal

pub returns-then-self-other : goal.returns-then-self-other
returns-then-self-other c =
    let first : c.self.inside.bits ≡ neighbour_bits edge c.args.self.now = c.self.invariant.0 ∙ ap (neighbour_bits edge) c.self.view_is in
    let second : c.other.inside.bits ≡ neighbour_bits edge c.args.other.now = c.other.invariant.0 ∙ ap (neighbour_bits edge) c.other.view_is in (
      λ h. absurd (cc),
      λ r. absurd (c.if-self-other.true (covering_marks c.args.self.now c.args.other.now c.self.inside.bits c.other.inside.bits first second r)),
    )
