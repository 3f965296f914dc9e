use Rattle.std.proofs.Common.{subst}
use Rattle.set_operators.specs.Plain.{IsMemberFound}
use Rattle.set_operators.specs.Steps.{chosen_asks}
use Rattle.set_operators.proofs.Answering.{other-kind}
use Rattle.set_operators.proofs.one.one_plain.Goals as goal

pub returns-in-Some : goal.returns-in-Some
returns-in-Some c = subst (IsMemberFound c.args.rule.now (chosen_asks c.args.asks.now c.args.choice)) c.in-Some.is c.in_ok-value.ensures

pub returns-in-None : goal.returns-in-None
returns-in-None c =
    (other-kind c.args.kind c.args.rule.now c.requires.kind, subst (IsMemberFound c.args.rule.now (chosen_asks c.args.asks.now c.args.choice)) c.in-None.is c.in_ok-value.ensures)
