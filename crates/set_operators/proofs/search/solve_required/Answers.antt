use Rattle.set_operators.specs.declared.steps.Choice.TheVariants.{Denied}
use Rattle.set_operators.specs.Steps.{chosen_asks}
use Rattle.set_operators.proofs.Answering.{alone-found, alone-none, one-closed, one-found, one-nothing, one-wide}
use Rattle.set_operators.proofs.search.solve_required.Goals as goal

pub returns-in_ok-list_of-in-Found : goal.returns-in_ok-list_of-in-Found
returns-in_ok-list_of-in-Found c =
    alone-found c.args.rule.now c.args.asks.now c.args.states c.in-Found.value _ c.requires.several c.requires.none c.in_ok-list_of-in-Found.ensures
    (one-found c.args.rule.now (chosen_asks c.args.asks.now Denied) c.args.states _ c.in-Found.value c.in-Found.is c.in_ok-value.ensures)

pub returns-in-Closed : goal.returns-in-Closed
returns-in-Closed c =
    let own = one-closed c.args.rule.now (chosen_asks c.args.asks.now Denied) c.args.states _ c.in-Closed.closed c.in-Closed.is c.in_ok-value.ensures in
    record { kind = own.0; several = c.requires.several; required = c.requires.required; closed = own.1 }

pub returns-in-Nothing : goal.returns-in-Nothing
returns-in-Nothing c =
    let own = one-nothing c.args.rule.now (chosen_asks c.args.asks.now Denied) c.args.states _ c.in-Nothing.is c.in_ok-value.ensures in
    record { kind = own.0; none = alone-none c.args.rule.now c.args.asks.now c.requires.required own.1 }

pub returns-in-TooMany : goal.returns-in-TooMany
returns-in-TooMany c = one-wide c.args.rule.now c.args.asks.now Denied c.args.states _ c.in-TooMany.texts tt c.in-TooMany.is c.in_ok-value.ensures
