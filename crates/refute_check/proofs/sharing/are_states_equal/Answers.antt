use Rattle.std.proofs.Common.{[], arith}
use Rattle.refute_check.proofs.Equals.{same-all, same-lists, same-more}
use Rattle.refute_check.proofs.sharing.are_states_equal.Goals as goal

pub lists-preserved : goal.lists-preserved
lists-preserved c = (
  c.lists.invariant.0,
  same-more c.args.one.now c.args.other.now c.lists.i [] c.get.result.now c.get-in-lists.result.now (rw c.len-i-end.ensures at c.lists-test.true) c.lists.invariant.0 c.get.ensures c.get-in-lists.ensures
      (same-lists c.get.result.now c.get-in-lists.result.now c.ne.result c.ne.ensures c.if-ne.false) c.lists.invariant.1,
)

pub returns : goal.returns
returns c = λ yes. same-all c.args.one.now c.args.other.now c.lists.i (omega arith) c.lists.invariant.0 c.lists.invariant.1
