use Rattle.std.proofs.Common.{[], arith}
use Rattle.refute_check.proofs.Equals.{same-all, same-more}
use Rattle.refute_check.proofs.sharing.are_sets_equal.Goals as goal

pub states-preserved : goal.states-preserved
states-preserved c = (
  c.states.invariant.0,
  same-more c.args.one.now c.args.other.now c.states.i [] c.get.result c.get-in-states.result (rw c.len-i-end.ensures at c.states-test.true) c.states.invariant.0 c.get.ensures c.get-in-states.ensures
      (c.are_states_equal.ensures c.if-not-are_states_equal.false) c.states.invariant.1,
)

pub returns : goal.returns
returns c = λ yes. same-all c.args.one.now c.args.other.now c.states.i (omega arith) c.states.invariant.0 c.states.invariant.1
