use Rattle.std.proofs.Common.{rules, ◌↔◌, IsTrue, IfOk, sym, subst}
use Rattle.formula_tree.specs.Trees.{tree_of}
use Rattle.refute_check.specs.Closing.{OwnRule}
use Rattle.refute_check.specs.Proofs.{Proof}
use Rattle.refute_check.proofs.Walking.{of-split, slot-rule}
use Rattle.refute_check.proofs.verdict.Checking.holds_here.Goals as goal

pub returns-in-BySlot-clause-holds : goal.returns-in-BySlot-clause-holds
returns-in-BySlot-clause-holds c =
    subst (λ (A : Type 0). IfOk c.accepts_core.result (λ yes. IsTrue yes ↔ A)) (sym (slot-rule c.args.self.now.schema.now c.args.self.now.query.now c.args.labels.now c.in-BySlot.core c.in-BySlot.proof c.args.node.now c.args.path.now c.in-BySlot.is)) c.accepts_core.ensures.accepted

pub returns-then-test-len-clause-holds : goal.returns-then-test-len-clause-holds
returns-then-test-len-clause-holds c =
    let q = c.args.self.now.query.now in
    subst (λ (p : Proof). IsTrue c.is_none.result ↔ OwnRule c.args.self.now.schema.now q.tests (tree_of q.formula.value) c.args.labels.now p c.args.path.now) (sym (of-split c.in-Split.test c.in-Split.yes c.in-Split.no c.args.node.now c.in-Split.is)) (search rules)
