use Rattle.std.proofs.Common.{[], ◌∷◌}
use Rattle.std.proofs.lemmas.List.Elements.{All-nil, All-cons}
use Rattle.policy_model.specs.Soundness.{TestSuits}
use Rattle.call_cases.proofs.cases.key_tests_of.Goals as goal

pub returns-clause-suit : goal.returns-clause-suit
returns-clause-suit c =
    let first = c.in_ok-first.first in
    let second = c.in_ok-second.second in
    let third = c.in_ok-third.third in
    let suits = TestSuits c.args.schema.now in
    rw (c.in_ok-tests.ensures)
    (All-cons suits first (second ∷ third ∷ []) c.in_ok-first.ensures (All-cons suits second (third ∷ []) c.in_ok-second.ensures (All-cons suits third [] c.in_ok-third.ensures (All-nil suits))))
