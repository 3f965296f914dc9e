use Rattle.std.proofs.Common.{ℕ, ◌<◌, Bool, false, List, All, refl, arith, subst}
use Rattle.std.proofs.lemmas.List.{take_all}
use Rattle.std.proofs.lemmas.List.Elements.{All-more}
use Rattle.clause_proofs.proofs.checking.are_in_range.Goals as goal

pub answers-preserved : goal.answers-preserved
answers-preserved c = All-more (λ (a : ℕ × Bool). a.0 < c.args.tests) c.args.answers.now c.answers.answer-index (0, false) c.answers-test.true c.answers.invariant (omega (arith, c.if-answer-tests.false))

pub returns : goal.returns
returns c = (
  λ told. subst (λ (l : List (ℕ × Bool)). All (λ a. a.0 < c.args.tests) l) (take_all c.answers.answer-index c.args.answers.now c.answers-test.false) c.answers.invariant,
  λ all. refl,
)
