use Rattle.policy_eval.proofs.eval.applies.Goals as goal

pub returns : goal.returns
returns c = (
  λ e. record {
    principal = c.principal_holds.ensures.0 c.if-not-principal_holds.false;
    action = c.patterns_hold.ensures.0 c.if-not-patterns_hold.false;
    resource = c.resource_holds.ensures.0 c.if-not-resource_holds.false;
    conditions = c.conditions_hold.ensures.0 e;
  },
  λ h. c.conditions_hold.ensures.1 h.conditions,
)
