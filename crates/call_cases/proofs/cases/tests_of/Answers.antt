use Rattle.std.proofs.Common.{[], ◌∷◌}
use Rattle.std.proofs.lemmas.List.Elements.{All-nil, All-cons}
use Rattle.policy_model.specs.Soundness.{TestSuits}
use Rattle.call_cases.proofs.cases.tests_of.Goals as goal

pub returns-clause-suit : goal.returns-clause-suit
returns-clause-suit c = λ schema.
    let first = c.in_ok-first.first in
    let second = c.in_ok-second.second in
    let third = c.in_ok-third.third in
    let suits = TestSuits schema in
    rw (c.in_ok-tests.ensures)
    (All-cons suits first (second ∷ third ∷ []) (c.in_ok-first.ensures schema) (All-cons suits second (third ∷ []) (c.in_ok-second.ensures schema) (All-cons suits third [] (c.in_ok-third.ensures schema) (All-nil suits))))
