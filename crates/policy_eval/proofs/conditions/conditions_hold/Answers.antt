use Rattle.std.proofs.Common.{rules}
use borrow.Author.Tests.{tests}
use Rattle.std.proofs.lemmas.Iterator.{YieldsList-from_slice, cases_from_all}
use Rattle.policy_model.specs.Conditions.{ConditionHolds}
use Rattle.policy_model.specs.declared.operator.Condition.{Condition}
use Rattle.policy_eval.proofs.Tested.{all-tested}
use Rattle.policy_eval.proofs.conditions.conditions_hold.Goals as goal

pub returns : goal.returns
returns c =
    let P : Condition → Type 0 = ConditionHolds c.args.schema.now c.args.request.now in
    all-tested P _ _ (cases_from_all _ _ _ P (λ d. ¬ P d) c.all.ensures.ran (YieldsList-from_slice c.args.conditions.now cc) (λ x q k. search (rules, tests)) (λ x q k. search (rules, tests)))
