use Rattle.std.proofs.Common.{◌<◌, ℕ, Bool, All, sym, subst, arith}
use Rattle.formula_tree.specs.Answers.{Answers}
use Rattle.search_parts.specs.Least.{AreChosenBelow}
use Rattle.search_parts.proofs.Choosing.{all-chosen, chosen-none}
use Rattle.search_parts.proofs.least.chosen.Goals as goal

pub tests-init : goal.tests-init
tests-init c =
    subst (AreChosenBelow c.args.path.now c.args.first.now c.args.second.now 0) (sym c.new-answers.ensures) (chosen-none c.args.path.now c.args.first.now c.args.second.now)

pub tests-preserved : goal.tests-preserved
tests-preserved c = c.in_ok-add_chosen.ensures

pub returns-clause-chosen : goal.returns-clause-chosen
returns-clause-chosen c =
    let above = subst (λ (l : Answers). All (λ (a : ℕ × Bool). a.0 < c.end_of-end.result) l) c.as_slice.ensures.value c.end_of-end.ensures.above in
    all-chosen c.args.path.now c.args.first.now c.args.second.now c.end_of-end.result c.tests.test above (omega (arith, c.tests-test.false)) c.tests.answers c.tests.invariant

pub returns-clause-rise : goal.returns-clause-rise
returns-clause-rise c = c.tests.invariant.rise
