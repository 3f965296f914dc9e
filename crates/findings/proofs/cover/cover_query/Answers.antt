use Rattle.std.proofs.Common.{arith}
use Rattle.findings.specs.CoverQueries.{AsksCover}
use Rattle.findings.specs.Regions.{region_plan}
use Rattle.findings.proofs.Covered.{cover-askable, cover-query-asked, cover-too-many}
use Rattle.findings.proofs.LeftOut.{left-out-holds}
use Rattle.findings.proofs.Made.{made-suits}
use Rattle.findings.proofs.cover.cover_query.Goals as goal

pub returns-then-len-gt-MOST_COVER_TESTS : goal.returns-then-len-gt-MOST_COVER_TESTS
returns-then-len-gt-MOST_COVER_TESTS c =
    cover-too-many c.args.base.now c.args.strata.now.dimensions c.args.findings.now c.cover_formula.new.numbering.tests.keys c.in_ok-tests.tests _ c.in_ok-formula.ensures c.in_ok-tests.ensures.tests (omega arith)

pub returns : goal.returns
returns c =
    let plan : AsksCover c.args.base.now c.args.strata.now.dimensions c.args.findings.now _ =
    cover-query-asked c.args.base.now c.args.strata.now.dimensions c.args.findings.now c.cover_formula.new.numbering.tests.keys _ c.in_ok-formula.ensures c.in_ok-tests.ensures.tests (omega arith) in
    record {
      plan = plan;
      left_out = λ schema region made r answers valid say.
          left-out-holds schema region c.args.strata.now.dimensions made.fits (made-suits schema region c.args.base.now c.args.strata.now made) c.args.findings.now c.requires.findings _ (plan (region_plan schema region) made.query) r answers valid say;
      askable = λ schema region made.
          cover-askable schema region c.args.base.now c.args.strata.now made c.args.findings.now _ (plan (region_plan schema region) made.query);
    }
