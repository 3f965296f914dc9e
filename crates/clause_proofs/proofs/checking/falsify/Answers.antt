use Rattle.clause_proofs.proofs.Falsifying.{answered, falsified-more, stands-before, unanswered}
use Rattle.clause_proofs.proofs.checking.falsify.Goals as goal

pub returns-then-is_some-clause-distinct : goal.returns-then-is_some-clause-distinct
returns-then-is_some-clause-distinct c =
    let there = answered c.answer.result _ c.is_some.result c.answer.ensures c.is_some.ensures c.if-is_some.true in (
      λ told. absurd (cc),
      λ distinct. absurd (stands-before c.args.literals.now c.literals.literal-index _ c.literals.path c.literals.invariant c.literals-test.true there distinct),
    )

pub literals-preserved : goal.literals-preserved
literals-preserved c =
    let new = unanswered c.answer.result _ c.is_some.result c.answer.ensures c.is_some.ensures c.if-is_some.false in
    falsified-more c.args.literals.now c.literals.literal-index _ c.literals.path c.push.new.self c.literals.invariant c.literals-test.true new c.in_ok-push.ensures.ok
