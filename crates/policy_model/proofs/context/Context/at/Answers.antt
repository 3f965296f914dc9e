use Rattle.std.proofs.Common.{◌≢◌, []}
use Rattle.policy_model.specs.Keys.{IsFolded}
use Rattle.policy_model.proofs.Entries.{found, key-at, value-at}
use Rattle.policy_model.proofs.context.Context.at.Goals as goal

pub returns-clause-folded : goal.returns-clause-folded
returns-clause-folded c = found (λ p. (p.0.now, p.1.now)) (λ e. IsFolded e.0) c.at.result _ c.at.ensures (key-at IsFolded c.self.inside.entries c.args.i c.self.invariant.0)

pub returns-clause-nonempty : goal.returns-clause-nonempty
returns-clause-nonempty c = found (λ p. (p.0.now, p.1.now)) (λ e. e.1 ≢ []) c.at.result _ c.at.ensures (value-at (λ values. values ≢ []) c.self.inside.entries c.args.i c.self.invariant.1)
