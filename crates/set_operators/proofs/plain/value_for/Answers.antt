use Rattle.std.proofs.Common.{sym, subst}
use Rattle.policy_model.specs.declared.value.Kind.{Kind}
use Rattle.set_operators.specs.Asks.{AskIsOf}
use Rattle.std.specs.Prelude.{All}
use Rattle.set_operators.specs.Listed.{IsListedMember}
use Rattle.set_operators.specs.Plain.{IsMemberFound, IsPlainFound}
use Rattle.set_operators.specs.Steps.{chosen_asks}
use Rattle.set_operators.proofs.Answering.{member-listed, ok-weaker, point-member}
use Rattle.set_operators.proofs.plain.value_for.Goals as goal

pub point_for-requires-clause-asks : goal.point_for-requires-clause-asks
point_for-requires-clause-asks c = subst (λ (k : Kind). All (λ a. AskIsOf k a.0) c.args.asks.now) (sym c.requires.kind) c.requires.posed.kinds

pub returns-in-Some : goal.returns-in-Some
returns-in-Some c =
    ok-weaker (IsListedMember c.args.rule.now (chosen_asks c.args.asks.now c.args.choice)) (IsMemberFound c.args.rule.now (chosen_asks c.args.asks.now c.args.choice)) c.listed_member.result
    (λ found is. member-listed c.args.rule.now (chosen_asks c.args.asks.now c.args.choice) _ found c.in-Some.is is) c.listed_member.ensures

pub returns-in-None : goal.returns-in-None
returns-in-None c =
    ok-weaker (IsPlainFound c.args.kind (chosen_asks c.args.asks.now c.args.choice)) (IsMemberFound c.args.rule.now (chosen_asks c.args.asks.now c.args.choice)) c.point_for.result
    (λ found is. point-member c.args.rule.now c.args.kind (chosen_asks c.args.asks.now c.args.choice) found c.requires.kind c.in-None.is is) c.point_for.ensures
