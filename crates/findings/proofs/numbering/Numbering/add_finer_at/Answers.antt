use Rattle.std.proofs.Common.{◌<◌, arith, length, List, subst, sym}
use Rattle.std.proofs.lemmas.List.{map_more}
use Rattle.formula_tree.specs.Trees.{trees_of}
use Rattle.policy_compile.specs.Plans.{Plan}
use Rattle.findings.specs.Asked.{AreAsked}
use Rattle.findings.specs.Queries.{number_plan}
use Rattle.findings.proofs.Plans.{asked-next, asked-none}
use Rattle.findings.proofs.Stepping.{lower-within, numbers-read}
use Rattle.findings.proofs.numbering.Numbering.add_finer_at.Goals as goal

pub below-init : goal.below-init
below-init c = asked-none c.args.self.now.tests.keys (trees_of c.args.branches.now)

pub ask_predicate-requires : goal.ask_predicate-requires
ask_predicate-requires c =
    let within : c.below.lower-index < length c.as_slice-lower-items.result.now = omega arith in
    let items = numbers-read c.args.stratum.now c.args.number c.as_slice.result.now c.index-as_slice-number.result c.as_slice-lower-items.result.now c.as_slice.ensures c.index-as_slice-number.is c.requires.within c.as_slice-lower-items.ensures in
    lower-within c.args.stratum.now c.args.number c.as_slice-lower-items.result.now c.below.lower-index c.requires.numbers items within

pub below-preserved : goal.below-preserved
below-preserved c =
    let within : c.below.lower-index < length c.as_slice-lower-items.result.now = omega arith in
    let plans = map_more (number_plan c.args.stratum.now) c.as_slice-lower-items.result.now c.below.lower-index 0 within in
    subst (λ (ps : List Plan). AreAsked c.args.self.now.tests.keys c.ask_predicate.new.self.tests.keys ps (trees_of c.args.branches.now) (trees_of c.push.new.self)) (sym plans)
    (asked-next c.args.self.now.tests.keys c.below.self.tests.keys c.ask_predicate.new.self.tests.keys _ _ (trees_of c.args.branches.now) (trees_of c.below.branches) (trees_of c.push.new.self) _ c.below.invariant c.in_ok-ask_predicate.ensures c.in_ok-push.ensures.ok)
