-- What decides on a request says what is answered to its evaluation.
use Rattle.std.proofs.Common.{ℕ, inl, inr}
use Rattle.policy_model.specs.declared.request.Request.{Request}
use Rattle.policy_model.specs.declared.schema.Schema.{Schema}
use Rattle.policy_model.specs.declared.set.PolicySet.{PolicySet}
use Rattle.policy_model.specs.declared.set.StatementName.{StatementName}
use Rattle.policy_model.specs.Requests.{IsValid}
use Rattle.policy_model.specs.Sets.{Allows}
use Rattle.policy_eval.specs.declared.outcome.Decider.TheVariants as by
use Rattle.policy_eval.specs.Deciding.{IsDecider}
use Rattle.policy_eval.specs.Laws.{DecidersTellWhatIsAllowed}
use Rattle.eval_answers.specs.declared.answer.Evaluation.TheVariants as answer
use Rattle.eval_answers.specs.declared.answer.Denial.{Denial}
use Rattle.eval_answers.specs.declared.answer.Denial.TheVariants as denial
use Rattle.eval_answers.specs.Evaluated.{IsEvaluation, IsUngranted}

module _ (law : DecidersTellWhatIsAllowed) (schema : Schema) (set : PolicySet) (r : Request) (valid : IsValid schema r) where
  pub allowed-by : (name : StatementName) → IsDecider schema set r (by.Statement name) → Allows schema set r → IsEvaluation schema set r (answer.Allowed name)
  allowed-by name (inl deny) allows = absurd ((law schema set r (by.Statement name)).0 deny allows)
  allowed-by name (inr allow) allows = (valid, allows, allow)

  pub denied-by : (name : StatementName) → IsDecider schema set r (by.Statement name) → ¬ Allows schema set r → IsEvaluation schema set r (answer.Denied (denial.ByStatement name))
  denied-by name (inl deny) not = (valid, not, deny)
  denied-by name (inr allow) not = absurd (not ((law schema set r (by.Statement name)).1 allow))

  pub not-granted : IsDecider schema set r by.NoGrant → (d : Denial) → IsUngranted set d → IsEvaluation schema set r (answer.Denied d)
  not-granted lacks denial.NoStatement guards = (valid, law schema set r by.NoGrant lacks, (lacks, guards))
  not-granted lacks denial.NoGrant guards = (valid, law schema set r by.NoGrant lacks, (lacks, guards))
  not-granted lacks _ guards = absurd guards

  pub not-guarded : (g : ℕ) → IsDecider schema set r (by.NoGuard g) → IsEvaluation schema set r (answer.Denied (denial.NoGuard g))
  not-guarded g lacks = (valid, law schema set r (by.NoGuard g) lacks, lacks)
