use Rattle.std.proofs.Common.{ap}
use Rattle.policy_model.specs.declared.set.Statement.{Statement}
use Rattle.set_questions.proofs.names.is_allow.Goals as goal

pub returns : goal.returns
returns c s there = ap (λ (t : Statement). t.allow) (c.named_statement.ensures s there)
