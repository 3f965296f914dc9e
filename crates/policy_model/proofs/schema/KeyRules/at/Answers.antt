use Rattle.policy_model.specs.Keys.{IsFolded}
use Rattle.policy_model.proofs.Entries.{found, key-at}
use Rattle.policy_model.proofs.schema.KeyRules.at.Goals as goal

pub returns-clause-folded : goal.returns-clause-folded
returns-clause-folded c = found (λ p. (p.0.now, p.1.now)) (λ e. IsFolded e.0) c.at.result _ c.at.ensures (key-at IsFolded c.self.inside.entries c.args.i c.self.invariant)
