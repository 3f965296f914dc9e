use Rattle.findings.specs.Regions.{region_plan}
use Rattle.findings.proofs.Made.{made-askable, made-steps, made-suits}
use Rattle.findings.proofs.Owning.{query-holds}
use Rattle.findings.proofs.Whole.{query-asked}
use Rattle.findings.proofs.query.finding_query.Goals as goal

pub returns-clause-plan : goal.returns-clause-plan
returns-clause-plan c =
    query-asked c.args.base.now c.args.strata.now.dimensions c.args.finding.now c.whole_formula.new.numbering.tests.keys _ c.in_ok-formula.ensures c.in_ok-tests.ensures.tests

pub returns-clause-own : goal.returns-clause-own
returns-clause-own c = λ schema region made r answers valid say.
    query-holds schema region c.args.strata.now.dimensions made.fits (made-steps schema region c.args.base.now c.args.strata.now made) (made-suits schema region c.args.base.now c.args.strata.now made) c.args.finding.now c.requires.finding _
    (returns-clause-plan c (region_plan schema region) made.query) r answers valid say

pub returns-clause-askable : goal.returns-clause-askable
returns-clause-askable c = λ schema region made.
    made-askable schema region c.args.base.now c.args.strata.now made c.args.finding.now _ (returns-clause-plan c (region_plan schema region) made.query) c.in_ok-tests.ensures.few
