use Rattle.std.proofs.Common.{sym, subst}
use Rattle.formula_tree.specs.Answers.{Answers, IsDistinct}
use Rattle.cnf_clauses.proofs.Deciding.{fresh_at}
use Rattle.cnf_clauses.proofs.decided.Decided.of_path.Goals as goal

pub push-requires : goal.push-requires
push-requires c =
    let items = c.as_slice-test-items.result.now in
    let distinct = subst (λ (x : Answers). IsDistinct x) (sym c.as_slice-test-items.ensures.value) c.as_slice-test-items.ensures.distinct in
    rw c.answers.invariant (fresh_at items c.answers.test-index _ distinct c.answers-test.true)
