use Rattle.std.proofs.Common.{◌≡◌, ◌<◌, length, get_or, ap, subst, arith}
use Rattle.formula_tree.specs.Answers.{Answers}
use Rattle.clause_search.proofs.Answering.{in-range}
use Rattle.clause_search.proofs.searching.is_in_range.Goals as goal

pub returns : goal.returns
returns c = λ yes. in-range c.args.asked.now.query.now.tests c.args.path.now (λ k d within.
    let same : length c.as_slice-answer-items.result.now ≡ length c.args.path.now = ap (λ (l : Answers). length l) c.as_slice-answer-items.ensures.value in
    let inside : k < c.answers.answer-index = omega (arith, c.answers-test.false) in
    subst (λ (l : Answers). (get_or l k d).0 < length c.args.asked.now.query.now.tests) c.as_slice-answer-items.ensures.value (c.answers.invariant k d inside))
