use Rattle.set_operators.specs.declared.steps.Choice.TheVariants.{DeniedAnd}
use Rattle.set_operators.specs.Steps.{chosen_asks}
use Rattle.set_operators.proofs.Answering.{kept-met, member-none, next-found, one-closed, one-found, one-nothing, one-wide, wanted-one}
use Rattle.set_operators.proofs.search.next_member.Goals as goal

pub returns-then-not-needs_member : goal.returns-then-not-needs_member
returns-then-not-needs_member c =
    kept-met c.args.rule.now c.args.asks.now c.args.index c.args.values.now c.as_slice.result.now c.index-asks-index.result c.needs_member.result c.requires.before c.requires.within c.index-asks-index.is c.as_slice.ensures
    c.needs_member.ensures c.if-not-needs_member.true

pub returns-in_ok-push-in-Found : goal.returns-in_ok-push-in-Found
returns-in_ok-push-in-Found c =
    next-found c.args.rule.now c.args.asks.now c.args.index c.args.values.now _ c.in-Found.value c.requires.before
    (wanted-one c.args.asks.now c.args.index c.index-asks-index.result c.needs_member.result _ c.requires.within c.index-asks-index.is c.needs_member.ensures c.if-not-needs_member.false)
    c.in_ok-push-in-Found.ensures.ok (one-found c.args.rule.now (chosen_asks c.args.asks.now (DeniedAnd c.args.index)) c.args.states _ c.in-Found.value c.in-Found.is c.in_ok-value.ensures)

pub returns-in-Closed : goal.returns-in-Closed
returns-in-Closed c =
    let own = one-closed c.args.rule.now (chosen_asks c.args.asks.now (DeniedAnd c.args.index)) c.args.states _ c.in-Closed.closed c.in-Closed.is c.in_ok-value.ensures in
    record {
      kind = own.0;
      several = c.requires.several;
      wanted = wanted-one c.args.asks.now c.args.index c.index-asks-index.result c.needs_member.result _ c.requires.within c.index-asks-index.is c.needs_member.ensures c.if-not-needs_member.false;
      closed = own.1;
    }

pub returns-in-Nothing : goal.returns-in-Nothing
returns-in-Nothing c =
    let own = one-nothing c.args.rule.now (chosen_asks c.args.asks.now (DeniedAnd c.args.index)) c.args.states _ c.in-Nothing.is c.in_ok-value.ensures in
    record {
      kind = own.0;
      none = member-none c.args.rule.now c.args.asks.now c.args.index
          (wanted-one c.args.asks.now c.args.index c.index-asks-index.result c.needs_member.result _ c.requires.within c.index-asks-index.is c.needs_member.ensures c.if-not-needs_member.false) own.1;
    }

pub returns-in-TooMany : goal.returns-in-TooMany
returns-in-TooMany c =
    one-wide c.args.rule.now c.args.asks.now (DeniedAnd c.args.index) c.args.states _ c.in-TooMany.texts c.requires.within c.in-TooMany.is c.in_ok-value.ensures
