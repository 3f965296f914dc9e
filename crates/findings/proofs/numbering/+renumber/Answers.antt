use Rattle.std.proofs.Common.{ap, arith, length, ◌∙◌}
use Rattle.formula_tree.specs.declared.formula.Formula.{Formula}
use Rattle.formula_tree.specs.Trees.{tree_of, trees_of}
use Rattle.findings.specs.Renumbering.{renumbered_tree}
use Rattle.findings.proofs.Trees.{below-at, each-all, each-next, none_past, size-at}
use Rattle.findings.proofs.numbering.+renumber.Goals as goal
use Rattle.findings.proofs.numbering.+renumber.Goals.{renumber_each-else-branches-test, renumber_each-then-branches-test+in_default}

pub renumber_each-renumber-requires : goal.renumber_each-renumber-requires
renumber_each-renumber-requires t c = (
  rw c.deref.ensures (omega (arith, size-at (trees_of c.args.branches.now) c.branches.i _ c.in-Some.ensures)),
  rw c.deref.ensures (below-at (length c.args.numbers.now) (trees_of c.args.branches.now) c.branches.i _ c.in-Some.ensures c.requires),
)

pub renumber_each-branches-preserved : goal.renumber_each-branches-preserved
renumber_each-branches-preserved t c =
    let is = ap tree_of c.in_ok-new.ensures.ok ∙ c.in_ok-branch.ensures ∙ ap (λ (f : Formula). renumbered_tree c.args.numbers.now (tree_of f)) c.deref.ensures in
    each-next c.args.numbers.now (trees_of c.args.branches.now) c.branches.i _ (tree_of c.in_ok-new.field-0.value) (trees_of c.branches.renumbered) (trees_of c.push.new.self) c.in-Some.ensures c.branches.invariant is c.in_ok-push.ensures.ok

pub renumber_each-returns : goal.renumber_each-returns
renumber_each-returns t c =
    elim c.branches-test.branch [
      | renumber_each-else-branches-test w ↦ each-all c.args.numbers.now (trees_of c.args.branches.now) c.branches.i (trees_of c.branches.renumbered) (omega arith) c.branches.invariant
      | renumber_each-then-branches-test+in_default w ↦
          each-all c.args.numbers.now (trees_of c.args.branches.now) c.branches.i (trees_of c.branches.renumbered) (none_past (trees_of c.args.branches.now) c.branches.i (rw w.in_default.is at w.get.ensures)) c.branches.invariant
    ]
