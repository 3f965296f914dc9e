use Rattle.std.proofs.Common.{rules}
use borrow.Author.Tests.{tests}
use Rattle.std.proofs.lemmas.Iterator.{YieldsList-from_slice, cases_from_any}
use Rattle.policy_model.specs.Conds.{CondMeets}
use Rattle.policy_model.specs.Operators.{cond_of}
use Rattle.policy_model.specs.declared.operator.Operand.{Operand}
use Rattle.policy_model.proofs.Laws.{meets-some-asked}
use Rattle.policy_eval.proofs.Tested.{any-tested}
use Rattle.policy_eval.proofs.conditions.meets_some.Goals as goal

pub returns : goal.returns
returns c =
    let k = c.args.kind in
    let condition = c.args.condition.now in
    let v = c.args.value.now in
    let P : Operand → Type 0 = λ o. CondMeets v (cond_of k condition.operator.base o) in
    let tested = any-tested P c.any.result condition.values (cases_from_any _ _ _ P (λ o. ¬ P o) c.any.ensures.ran (YieldsList-from_slice condition.values cc) (λ x q h. search (rules, tests)) (λ x q h. search (rules, tests))) in
    let asked = meets-some-asked k condition v in
    (λ e. asked.1 (tested.0 e), λ h. tested.1 (asked.0 h))
