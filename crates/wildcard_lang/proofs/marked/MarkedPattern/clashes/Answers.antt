use Rattle.std.proofs.Common.{◌≡◌, ap, ◌∙◌, refl}
use Rattle.wildcard_lang.specs.FrontSums.{front_sum}
use Rattle.wildcard_lang.specs.declared.marked.TheConstants.{SHORT_FRONT, LONG_FRONT}
use Rattle.wildcard_lang.proofs.FrontSums.{other-fronts}
use Rattle.wildcard_lang.proofs.marked.MarkedPattern.clashes.Goals as goal

pub returns-then-differ : goal.returns-then-differ
returns-then-differ c =
    let first : c.self.inside.short ≡ front_sum SHORT_FRONT 0 c.args.self.now = c.self.invariant.1 ∙ ap (front_sum SHORT_FRONT 0) c.self.view_is in
    let second : c.other.inside.short ≡ front_sum SHORT_FRONT 0 c.args.other.now = c.other.invariant.1 ∙ ap (front_sum SHORT_FRONT 0) c.other.view_is in
    (λ h. other-fronts SHORT_FRONT c.args.self.now c.args.other.now c.self.inside.short c.other.inside.short first second (c.differ.ensures.0 c.if-differ.true), λ r. refl)

pub returns-then-differ-2 : goal.returns-then-differ-2
returns-then-differ-2 c =
    let first : c.self.inside.long ≡ front_sum LONG_FRONT 0 c.args.self.now = c.self.invariant.2 ∙ ap (front_sum LONG_FRONT 0) c.self.view_is in
    let second : c.other.inside.long ≡ front_sum LONG_FRONT 0 c.args.other.now = c.other.invariant.2 ∙ ap (front_sum LONG_FRONT 0) c.other.view_is in
    (λ h. other-fronts LONG_FRONT c.args.self.now c.args.other.now c.self.inside.long c.other.inside.long first second (c.differ-2.ensures.0 c.if-differ-2.true), λ r. refl)
