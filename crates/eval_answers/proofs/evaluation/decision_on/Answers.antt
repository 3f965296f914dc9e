use Rattle.eval_answers.proofs.Evaluating.{allowed-by, denied-by, not-granted, not-guarded}
use Rattle.eval_answers.proofs.evaluation.decision_on.Goals as goal

pub returns-then-allows : goal.returns-then-allows
returns-then-allows c =
    allowed-by c.deciders_tell_what_is_allowed.ensures c.args.schema.now c.args.set.now c.args.request.now c.requires.valid c.in-Statement.name c.in-Statement.ensures (c.allows.ensures.0 c.if-allows.true)

pub returns-else-allows : goal.returns-else-allows
returns-else-allows c =
    denied-by c.deciders_tell_what_is_allowed.ensures c.args.schema.now c.args.set.now c.args.request.now c.requires.valid c.in-Statement.name c.in-Statement.ensures (λ allowed. absurd (cc (c.allows.ensures.1 allowed)))

pub returns-in-NoGrant : goal.returns-in-NoGrant
returns-in-NoGrant c =
    not-granted c.deciders_tell_what_is_allowed.ensures c.args.schema.now c.args.set.now c.args.request.now c.requires.valid c.in-NoGrant.ensures c.ungranted.result c.ungranted.ensures

pub returns-in-NoGuard : goal.returns-in-NoGuard
returns-in-NoGuard c =
    not-guarded c.deciders_tell_what_is_allowed.ensures c.args.schema.now c.args.set.now c.args.request.now c.requires.valid c.in-NoGuard.guard c.in-NoGuard.ensures
