use Rattle.std.proofs.lemmas.List.Elements.{All-more}
use Rattle.policy_model.proofs.Laws.{All-done}
use Rattle.slot_theory.specs.Cores.{IsContradicted}
use Rattle.slot_theory.proofs.Contradicted.{any-none, not-contradicted}
use Rattle.slot_theory.proofs.kinds.is_contradicted.Goals as goal

pub loop-n-preserved : goal.loop-n-preserved
loop-n-preserved c =
    All-more (λ n. IsContradicted c.args.tests.now c.args.path.now c.args.kind n → ⊥) c.args.core.now _ 0 c.loop-n-test.true c.loop-n.invariant
    (not-contradicted c.args.tests.now c.args.path.now c.args.kind _ c.index-tests-n.result c.answer.result (c.requires c.loop-n.n-index 0 c.loop-n-test.true) c.index-tests-n.is c.answer.ensures c.if-contradicts.ensures)

pub returns : goal.returns
returns c = (
  λ e. absurd (cc),
  λ some. absurd (any-none (IsContradicted c.args.tests.now c.args.path.now c.args.kind) c.args.core.now (All-done (λ n. IsContradicted c.args.tests.now c.args.path.now c.args.kind n → ⊥) c.args.core.now _ c.loop-n-test.false c.loop-n.invariant) some),
)
