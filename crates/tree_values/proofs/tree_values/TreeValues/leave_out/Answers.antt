use Rattle.std.proofs.Common.{◌≡◌, arith, drop, subst, ℕ}
use Rattle.tree_values.specs.Leaving.{AreKeptFor}
use Rattle.tree_values.proofs.Leaving.{kept-before, out-then}
use Rattle.tree_values.proofs.tree_values.TreeValues.leave_out.Goals as goal

pub answers-preserved : goal.answers-preserved
answers-preserved c = (
  omega (arith, c.answers.invariant.0),
  out-then c.args.self.now c.answers.self c.try_without.new.self c.args.needed.now c.args.test c.args.sides c.answers.invariant.1 c.try_without.ensures.out,
  kept-before c.answers.self c.try_without.new.self c.args.needed.now c.args.path.now c.as_slice.result.now c.args.test c.args.sides c.answers.left c.as_slice.ensures.value c.answers-test.true c.answers.invariant.0
      c.try_without.ensures.out c.answers.invariant.2 c.try_without.ensures.tried,
)

pub returns-clause-tried : goal.returns-clause-tried
returns-clause-tried c =
    let done : c.answers.left ≡ 0 = omega arith in
    subst (λ (k : ℕ). AreKeptFor c.answers.self c.args.needed.now c.args.test c.args.sides (drop k c.args.path.now)) done c.answers.invariant.2
