use Rattle.std.proofs.Common.{◌<◌, arith, length}
use Rattle.findings.proofs.Stepping.{add-all, add-next, finding-long, number-within, numbered-at}
use Rattle.findings.proofs.steps.add_under.Goals as goal

pub dimension_at-requires : goal.dimension_at-requires
dimension_at-requires c = omega (arith, finding-long c.args.strata.now.dimensions c.args.finding.now c.requires.finding)

pub add_under_at-requires-clause-within : goal.add_under_at-requires-clause-within
add_under_at-requires-clause-within c =
    let own = number-within c.args.strata.now.dimensions c.args.finding.now c.requires.finding c.dimensions.i _ c.dimension_at.ensures in
    let numbered = numbered-at c.args.strata.now.dimensions c.dimensions.i _ c.requires.numbered c.dimension_at.ensures in
    omega (arith, own, numbered.count)

pub dimensions-preserved : goal.dimensions-preserved
dimensions-preserved c =
    let within : c.dimensions.i < length c.args.finding.now = omega arith in
    add-next c.args.strata.now.dimensions c.args.finding.now c.dimensions.i _ c.args.coming.now.items c.dimensions.coming.items c.add_under_at.new.coming.items c.dimension_at.ensures within c.dimensions.invariant c.in_ok-add_under_at.ensures

pub returns : goal.returns
returns c = add-all c.args.strata.now.dimensions c.args.finding.now c.dimensions.i c.args.coming.now.items c.dimensions.coming.items (omega arith) c.dimensions.invariant
