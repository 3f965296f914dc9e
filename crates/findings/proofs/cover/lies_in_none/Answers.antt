use Rattle.findings.specs.CoverQueries.{inside_plan}
use Rattle.findings.proofs.Plans.{not-asked}
use Rattle.findings.proofs.cover.lies_in_none.Goals as goal

pub returns : goal.returns
returns c =
    not-asked c.args.numbering.now.tests.keys c.lies_in_some.new.numbering.tests.keys (inside_plan c.args.strata.now.dimensions c.args.findings.now) c.in_ok-some.some c.in_ok-formula.formula.value c.in_ok-some.ensures c.in_ok-formula.ensures.ok
