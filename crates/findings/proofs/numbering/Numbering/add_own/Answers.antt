use Rattle.std.proofs.Common.{◌<◌, arith, length, subst, sym, List}
use Rattle.formula_tree.specs.Trees.{trees_of}
use Rattle.policy_compile.specs.Plans.{Plan}
use Rattle.findings.specs.Asked.{AreAsked}
use Rattle.findings.proofs.Plans.{asked-next, asked-none}
use Rattle.findings.proofs.Stepping.{finding-long, number-within, own-all, own-next}
use Rattle.findings.proofs.numbering.Numbering.add_own.Goals as goal

pub dimensions-init : goal.dimensions-init
dimensions-init c = asked-none c.args.self.now.tests.keys (trees_of c.args.branches.now)

pub dimension_at-requires : goal.dimension_at-requires
dimension_at-requires c = omega (arith, finding-long c.args.strata.now.dimensions c.args.finding.now c.requires)

pub ask_predicate-requires : goal.ask_predicate-requires
ask_predicate-requires c =
    let own = number-within c.args.strata.now.dimensions c.args.finding.now c.requires c.dimensions.i _ c.dimension_at.ensures in
    omega (arith, own, c.predicate_number_at-number.ensures)

pub dimensions-preserved : goal.dimensions-preserved
dimensions-preserved c =
    let within : c.dimensions.i < length c.args.finding.now = omega arith in
    let plans = own-next c.args.strata.now.dimensions c.args.finding.now c.dimensions.i _ c.dimension_at.ensures within in
    let number = c.predicate_number_at-number.ensures in
    subst (λ (ps : List Plan). AreAsked c.args.self.now.tests.keys c.ask_predicate.new.self.tests.keys ps (trees_of c.args.branches.now) (trees_of c.push.new.self)) (sym plans)
    (asked-next c.args.self.now.tests.keys c.dimensions.self.tests.keys c.ask_predicate.new.self.tests.keys _ _ (trees_of c.args.branches.now) (trees_of c.dimensions.branches) (trees_of c.push.new.self) _ c.dimensions.invariant (rw number at c.in_ok-ask_predicate.ensures) c.in_ok-push.ensures.ok)

pub returns : goal.returns
returns c =
    let plans = own-all c.args.strata.now.dimensions c.args.finding.now c.dimensions.i c.requires (omega arith) in
    subst (λ (ps : List Plan). AreAsked c.args.self.now.tests.keys c.dimensions.self.tests.keys ps (trees_of c.args.branches.now) (trees_of c.dimensions.branches)) plans c.dimensions.invariant
