use Rattle.std.proofs.Common.{◌≡◌, ◌-◌, ℕ, Some, arith, inl, inr, slice_get, subst}
use Rattle.std.proofs.lemmas.Bool.{cases_lt}
use Rattle.nogoods.proofs.Learning.{contained-begun, newest-is, no-newest}
use Rattle.nogoods.proofs.tracking.shortest.Goals as goal

pub returns-then-has_answer : goal.returns-then-has_answer
returns-then-has_answer c = record {
  distinct = c.len-count.ensures.distinct;
  within = c.loop-count.invariant.0;
  contains = contained-begun c.args.answers.now c.args.path.now c.loop-count.count c.requires c.loop-count.invariant.1;
  newest = λ n b some at. newest-is c.as_slice.result.now c.args.path.now c.args.answers.now (c.loop-count.count - 1) c.as_slice.ensures.value c.if-has_answer.ensures n b at;
}

pub loop-count-preserved : goal.loop-count-preserved
loop-count-preserved c = (
  omega (arith, c.loop-count.invariant.0),
  λ k n b le at.
      elim (cases_lt k c.loop-count.count) [
        | inl lt ↦
            let e : k ≡ c.loop-count.count - 1 = omega (arith, lt, le) in
            no-newest c.as_slice.result.now c.args.path.now c.args.answers.now (c.loop-count.count - 1) c.as_slice.ensures.value c.if-has_answer.ensures n b (subst (λ (m : ℕ). slice_get c.args.path.now m ≡ Some (n, b)) e at)
        | inr ge ↦ c.loop-count.invariant.1 k n b ge at
      ],
)

pub returns : goal.returns
returns c = record {
  distinct = c.len-count.ensures.distinct;
  within = omega arith;
  contains = contained-begun c.args.answers.now c.args.path.now 0 c.requires (λ k n b le at. c.loop-count.invariant.1 k n b (omega (arith, c.loop-count-test.false)) at);
  newest = λ n b some at. absurd (omega (arith, some));
}
