use Rattle.std.proofs.Common.{arith, ap, ◌∙◌}
use Rattle.formula_tree.specs.declared.formula.Formula.{Formula}
use Rattle.formula_tree.specs.Trees.{tree_of, trees_of}
use Rattle.cnf_clauses.specs.Numbering.{nodes, variable_of}
use Rattle.formula_tree.proofs.FormulaWalks.{none_past}
use Rattle.cnf_clauses.proofs.Walking.{nodes_in-next, nodes_in-within, variables-next, variables-all}
use Rattle.cnf_clauses.proofs.numbering.variables_of.Goals as goal
use Rattle.cnf_clauses.proofs.numbering.variables_of.Goals.{else-branches-test, then-branches-test+in_default}

pub overflow_cast-next : goal.overflow_cast-next
overflow_cast-next c =
    let e = ap (λ (f : Formula). nodes (tree_of f)) c.deref-in-branches.ensures in
    omega (arith, nodes_in-within (trees_of c.args.branches.now) c.branches.i _ c.in-Some.ensures)

pub overflow_add-next : goal.overflow_add-next
overflow_add-next c =
    let e = ap (λ (f : Formula). nodes (tree_of f)) c.deref-in-branches.ensures in
    omega (arith, nodes_in-within (trees_of c.args.branches.now) c.branches.i _ c.in-Some.ensures)

pub branches-preserved : goal.branches-preserved
branches-preserved c =
    let e = ap (λ (f : Formula). nodes (tree_of f)) c.deref-in-branches.ensures in
    let within = nodes_in-within (trees_of c.args.branches.now) c.branches.i _ c.in-Some.ensures in
    let is = c.variable_of.ensures ∙ ap (λ (f : Formula). variable_of c.branches.next (tree_of f)) c.deref.ensures in (
      variables-next c.args.next (trees_of c.args.branches.now) c.branches.i _ c.branches.variables.items c.push.new.self.items c.variable_of.result c.branches.next
          c.in-Some.ensures c.branches.invariant.0 c.branches.invariant.1 is c.in_ok-push.ensures.items,
      omega (arith, nodes_in-next (trees_of c.args.branches.now) c.branches.i _ c.in-Some.ensures),
    )

pub returns : goal.returns
returns c =
    elim c.branches-test.branch [
      | else-branches-test w ↦ variables-all c.args.next (trees_of c.args.branches.now) c.branches.i c.branches.variables.items (omega arith) c.branches.invariant.0
      | then-branches-test+in_default w ↦
          variables-all c.args.next (trees_of c.args.branches.now) c.branches.i c.branches.variables.items (none_past (trees_of c.args.branches.now) c.branches.i (rw w.in_default.is at w.get.ensures)) c.branches.invariant.0
    ]
