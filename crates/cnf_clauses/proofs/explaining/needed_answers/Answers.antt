use Rattle.std.proofs.Common.{take, false, refl, sym, subst, ◌∙◌}
use Rattle.formula_tree.specs.Answers.{Answers, IsDistinct}
use Rattle.cnf_clauses.proofs.Deciding.{fresh_at}
use Rattle.cnf_clauses.proofs.Marking.{answers-next, answers-past, used-open}
use Rattle.cnf_clauses.proofs.explaining.needed_answers.Goals as goal

pub answers-preserved-then-not-is_needed : goal.answers-preserved-then-not-is_needed
answers-preserved-then-not-is_needed c =
    answers-past c.as_slice-test-items.result.now c.answers.test-index (0, false) c.args.needed.now.items c.answers.used c.is_needed.result
    c.answers-test.true c.answers.invariant c.is_needed.ensures c.if-not-is_needed.true

pub push-requires : goal.push-requires
push-requires c =
    let items = c.as_slice-test-items.result.now in
    let distinct = subst (λ (x : Answers). IsDistinct x) (sym c.as_slice-test-items.ensures.value) c.as_slice-test-items.ensures.distinct in
    used-open (take c.answers.test-index items) c.args.needed.now.items c.answers.used _ c.answers.invariant (fresh_at items c.answers.test-index _ distinct c.answers-test.true)

pub answers-preserved : goal.answers-preserved
answers-preserved c =
    let items = c.as_slice-test-items.result.now in
    let distinct = subst (λ (x : Answers). IsDistinct x) (sym c.as_slice-test-items.ensures.value) c.as_slice-test-items.ensures.distinct in
    answers-next items c.answers.test-index (0, false) c.args.needed.now.items c.answers.used c.push.new.self _ c.answers-test.true distinct refl
    c.answers.invariant (sym c.is_needed.ensures ∙ c.if-not-is_needed.false) c.in_ok-push.ensures.ok
