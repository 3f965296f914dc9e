use Rattle.std.proofs.Common.{◌∙◌, arith, sym}
use Rattle.test_relations.proofs.Nested.{lies-deeper}
use Rattle.test_relations.proofs.conds.block_leads.Goals as goal

pub returns-then-other-one : goal.returns-then-other-one
returns-then-other-one c h a inside =
    lies-deeper c.args.other.now.first c.args.one.now.first a c.args.other.now.prefix c.args.one.now.prefix (omega (arith, c.if-other-one.true)) (sym c.contains.ensures ∙ h) inside
