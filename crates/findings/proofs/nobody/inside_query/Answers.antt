use Rattle.findings.specs.CoverQueries.{inside_plan}
use Rattle.findings.proofs.Besides.{asks-both}
use Rattle.findings.proofs.Inside.{inside-query}
use Rattle.findings.proofs.nobody.inside_query.Goals as goal

pub with_region-requires : goal.with_region-requires
with_region-requires c = c.requires.made.1.1.is.below

pub returns : goal.returns
returns c =
    inside-query c.args.base.now c.args.strata.now c.args.findings.now c.requires.findings _
    (asks-both (inside_plan c.args.strata.now.dimensions c.args.findings.now) c.args.base.now _ c.new-numbering.result.tests.keys c.lies_in_some.new.numbering.tests.keys c.with_region.new.numbering.tests.keys _
    c.new-numbering.ensures c.in_ok-inside.ensures c.in_ok-formula.ensures c.in_ok-tests.ensures.tests c.in_ok-tests.ensures.few)
