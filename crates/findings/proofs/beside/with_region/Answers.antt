use Rattle.formula_tree.specs.Trees.{tree_of, trees_of}
use Rattle.findings.proofs.Besides.{stands-beside}
use Rattle.findings.proofs.beside.with_region.Goals as goal

pub returns : goal.returns
returns c =
    stands-beside c.args.numbering.now.tests.keys c.renumbered.new.self.tests.keys c.args.base.now c.args.one.value c.in_ok-renumbered.field-0.value (trees_of c.new-branches.result) (trees_of c.push.new.self) c.push-2.new.self c.in_ok-formula.formula.value
    c.new-branches.ensures c.in_ok-push.ensures.ok c.in_ok-renumbered.ensures c.in_ok-push-2.ensures.ok c.in_ok-formula.ensures.ok
