use Rattle.findings.specs.Asking.{lying_plan}
use Rattle.findings.proofs.Besides.{asks-both}
use Rattle.findings.proofs.Lessened.{own-query}
use Rattle.findings.proofs.Made.{made-numbered}
use Rattle.findings.proofs.short.own_query.Goals as goal

pub lying_formula-requires-clause-numbers : goal.lying_formula-requires-clause-numbers
lying_formula-requires-clause-numbers c =
    let made = c.requires.made in
    made-numbered made.0 made.1.0 made.1.1.base c.args.strata.now made.1.1.made

pub with_region-requires : goal.with_region-requires
with_region-requires c = c.requires.made.1.1.is.below

pub returns : goal.returns
returns c =
    own-query c.args.less.now c.args.strata.now c.args.finding.now _ c.requires.finding
    (asks-both (lying_plan c.args.strata.now.dimensions c.args.finding.now) c.args.less.now _ c.new-numbering.result.tests.keys c.lying_formula.new.numbering.tests.keys c.with_region.new.numbering.tests.keys _
    c.new-numbering.ensures (rw c.new-numbering.ensures c.in_ok-lying.ensures) c.in_ok-formula.ensures c.in_ok-tests.ensures.tests c.in_ok-tests.ensures.few)
