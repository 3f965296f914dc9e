use Rattle.std.proofs.Common.{List, subst}
use Rattle.policy_model.specs.declared.value.Value.{Value}
use Rattle.set_operators.specs.Listed.{IsListedFound, IsListedMember}
use Rattle.set_operators.specs.Steps.{chosen_asks}
use Rattle.set_operators.proofs.Answering.{listed-member, ok-weaker}
use Rattle.set_operators.proofs.listed.listed_member.Goals as goal

pub returns-in-Some : goal.returns-in-Some
returns-in-Some c =
    ok-weaker (IsListedFound c.as_slice.result.now (chosen_asks c.args.asks.now c.args.choice)) (IsListedMember c.args.rule.now (chosen_asks c.args.asks.now c.args.choice)) c.listed_for.result
    (λ found is. listed-member c.args.rule.now (chosen_asks c.args.asks.now c.args.choice) c.in-Some.listed found c.requires.sound c.in-Some.is
    (subst (λ (vs : List Value). IsListedFound vs (chosen_asks c.args.asks.now c.args.choice) found) c.as_slice.ensures is)) c.listed_for.ensures
