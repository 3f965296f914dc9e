use Rattle.std.proofs.Common.{Result, subst, sym}
use Rattle.std.specs.Prelude.{⊤}
use Rattle.policy_compile.specs.Sets.{set_plan}
use Rattle.set_questions.specs.declared.outcome.UseFault.{UseFault}
use Rattle.set_questions.specs.Uses.{AreLimitsMet}
use Rattle.set_questions.proofs.Using.{limits-met}
use Rattle.set_questions.proofs.asking.meet_limits.Goals as goal

pub returns : goal.returns
returns c =
    let plan = set_plan c.args.schema.now c.args.set.now in
    subst (λ (r : Result ⊤ UseFault). AreLimitsMet plan r) (sym c.limits_told.ensures) (limits-met plan c.set_query-query.result c.set_query-query.ensures)
