use Rattle.findings.proofs.Plainly.{lying-askable}
use Rattle.findings.proofs.granted.lying_query.Goals as goal

pub returns : goal.returns
returns c =
    lying-askable c.args.strata.now c.args.finding.now c.lying_formula.new.numbering.tests.keys _ c.in_ok-formula.ensures c.in_ok-tests.ensures.tests c.in_ok-tests.ensures.few
