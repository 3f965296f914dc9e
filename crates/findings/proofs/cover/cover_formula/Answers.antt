use Rattle.formula_tree.specs.Trees.{tree_of, trees_of}
use Rattle.policy_compile.proofs.Laws.{below-numbered}
use Rattle.findings.specs.Regions.{region_plan}
use Rattle.findings.proofs.Covered.{cover-asked}
use Rattle.findings.proofs.Plans.{base-asked}
use Rattle.findings.proofs.cover.cover_formula.Goals as goal

pub renumbered-requires : goal.renumbered-requires
renumbered-requires c =
    let made = c.requires.made in
    below-numbered c.args.base.now.tests (region_plan made.0 made.1.0) (tree_of c.args.base.now.formula.value) made.1.1.query.tree

pub returns : goal.returns
returns c =
    cover-asked c.args.base.now c.args.strata.now.dimensions c.args.findings.now c.args.numbering.now.tests.keys c.renumbered.new.self.tests.keys c.lies_in_none.new.numbering.tests.keys
    (trees_of c.new-branches.result) (trees_of c.push.new.self) c.in_ok-renumbered.field-0 (tree_of c.in_ok-lies_in_none.field-0.value) c.push-2.new.self c.in_ok-formula.formula.value
    c.requires.tests c.new-branches.ensures (base-asked c.args.numbering.now.tests.keys c.renumbered.new.self.tests.keys c.args.base.now c.in_ok-renumbered.field-0 c.in_ok-renumbered.ensures) c.in_ok-push.ensures.ok c.in_ok-lies_in_none.ensures c.in_ok-push-2.ensures.ok c.in_ok-formula.ensures.ok
