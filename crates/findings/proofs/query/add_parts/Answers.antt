use Rattle.formula_tree.specs.Trees.{tree_of, trees_of}
use Rattle.policy_compile.proofs.Laws.{below-numbered}
use Rattle.findings.specs.Regions.{region_plan}
use Rattle.findings.proofs.Made.{made-numbered}
use Rattle.findings.proofs.Plans.{base-asked}
use Rattle.findings.proofs.Whole.{parts-asked}
use Rattle.findings.proofs.query.add_parts.Goals as goal

pub no_finer-requires-clause-numbers : goal.no_finer-requires-clause-numbers
no_finer-requires-clause-numbers c =
    let made = c.requires.made in
    made-numbered made.0 made.1.0 c.args.base.now c.args.strata.now made.1.1

pub renumbered-requires : goal.renumbered-requires
renumbered-requires c =
    let made = c.requires.made in
    below-numbered c.args.base.now.tests (region_plan made.0 made.1.0) (tree_of c.args.base.now.formula.value) made.1.1.query.tree

pub returns : goal.returns
returns c =
    let own = rw (c.requires.tests, c.requires.parts) at c.in_ok-add_own.ensures in
    parts-asked c.args.base.now c.args.strata.now.dimensions c.args.finding.now c.add_own.new.self.tests.keys c.no_finer.new.self.tests.keys c.renumbered.new.self.tests.keys
    (trees_of c.add_own.new.branches) (trees_of c.push.new.self) (trees_of c.push-2.new.self) (tree_of c.in_ok-no_finer.field-0.value) c.in_ok-renumbered.field-0
    own c.in_ok-no_finer.ensures c.in_ok-push.ensures.ok (base-asked c.no_finer.new.self.tests.keys c.renumbered.new.self.tests.keys c.args.base.now c.in_ok-renumbered.field-0 c.in_ok-renumbered.ensures) c.in_ok-push-2.ensures.ok
