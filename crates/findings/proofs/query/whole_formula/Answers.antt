use Rattle.findings.proofs.Whole.{whole-asked}
use Rattle.findings.proofs.query.whole_formula.Goals as goal

pub returns : goal.returns
returns c =
    whole-asked c.args.base.now c.args.strata.now.dimensions c.args.finding.now c.add_parts.new.numbering.tests.keys c.add_parts.new.branches c.in_ok-formula.formula.value c.in_ok-add_parts.ensures c.in_ok-formula.ensures.ok
