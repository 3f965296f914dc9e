use Rattle.std.proofs.Common.{◌<◌, arith, length, subst, sym, List}
use Rattle.formula_tree.specs.Trees.{trees_of}
use Rattle.policy_compile.specs.Plans.{Plan}
use Rattle.findings.specs.Asked.{AreAsked}
use Rattle.findings.proofs.Plans.{asked-append, asked-none}
use Rattle.findings.proofs.Stepping.{finding-long, finer-all, finer-next, number-within, numbered-at}
use Rattle.findings.proofs.numbering.Numbering.add_finer.Goals as goal

pub dimensions-init : goal.dimensions-init
dimensions-init c = asked-none c.args.self.now.tests.keys (trees_of c.args.branches.now)

pub dimension_at-requires : goal.dimension_at-requires
dimension_at-requires c = omega (arith, finding-long c.args.strata.now.dimensions c.args.finding.now c.requires.finding)

pub add_finer_at-requires-clause-within : goal.add_finer_at-requires-clause-within
add_finer_at-requires-clause-within c =
    let own = number-within c.args.strata.now.dimensions c.args.finding.now c.requires.finding c.dimensions.i _ c.dimension_at.ensures in
    let numbered = numbered-at c.args.strata.now.dimensions c.dimensions.i _ c.requires.numbers c.dimension_at.ensures in
    omega (arith, own, numbered.count, c.predicate_number_at-number.ensures)

pub add_finer_at-requires-clause-numbers : goal.add_finer_at-requires-clause-numbers
add_finer_at-requires-clause-numbers c = numbered-at c.args.strata.now.dimensions c.dimensions.i _ c.requires.numbers c.dimension_at.ensures

pub dimensions-preserved : goal.dimensions-preserved
dimensions-preserved c =
    let within : c.dimensions.i < length c.args.finding.now = omega arith in
    let plans = finer-next c.args.strata.now.dimensions c.args.finding.now c.dimensions.i _ c.dimension_at.ensures within in
    let number = c.predicate_number_at-number.ensures in
    subst (λ (ps : List Plan). AreAsked c.args.self.now.tests.keys c.add_finer_at.new.self.tests.keys ps (trees_of c.args.branches.now) (trees_of c.add_finer_at.new.branches)) (sym plans)
    (asked-append c.args.self.now.tests.keys c.dimensions.self.tests.keys c.add_finer_at.new.self.tests.keys _ _ (trees_of c.args.branches.now) (trees_of c.dimensions.branches) (trees_of c.add_finer_at.new.branches) c.dimensions.invariant (rw number at c.in_ok-add_finer_at.ensures))

pub returns : goal.returns
returns c =
    let plans = finer-all c.args.strata.now.dimensions c.args.finding.now c.dimensions.i c.requires.finding (omega arith) in
    subst (λ (ps : List Plan). AreAsked c.args.self.now.tests.keys c.dimensions.self.tests.keys ps (trees_of c.args.branches.now) (trees_of c.dimensions.branches)) plans c.dimensions.invariant
