use Rattle.set_operators.specs.Asks.{AskIsOf}
use Rattle.set_operators.specs.Plain.{as_kind}
use Rattle.set_operators.specs.Steps.{chosen_asks}
use Rattle.set_operators.proofs.Choosing.{chosen-all, chosen-there}
use Rattle.set_operators.proofs.Plains.{found-at, none-at, proper}
use Rattle.set_operators.proofs.plain.point_for.Goals as goal

pub solve-requires : goal.solve-requires
solve-requires c =
    proper c.args.kind _ _ c.in_ok-wants.ensures (chosen-all (λ a. AskIsOf (as_kind c.args.kind) a.0) c.args.asks.now c.args.choice c.requires.choice c.requires.asks)

pub returns-in-Found : goal.returns-in-Found
returns-in-Found c =
    found-at c.meets_is_meaning.ensures c.args.kind (chosen_asks c.args.asks.now c.args.choice) c.in_ok-wants.wants c.in_ok-value.field-0 c.in-Found.value c.as_value.result c.in_ok-wants.ensures
    (chosen-there c.args.asks.now c.args.choice c.requires.choice c.requires.there) c.in-Found.is c.in_ok-value.ensures.answer c.as_value.ensures

pub returns : goal.returns
returns c =
    none-at c.meets_is_meaning.ensures c.args.kind (chosen_asks c.args.asks.now c.args.choice) c.in_ok-wants.wants c.in_ok-value.field-0 c.in_ok-wants.ensures c.in-Empty.is c.in_ok-value.ensures.answer
