use Rattle.std.proofs.Common.{rules}
use borrow.Author.Tests.{tests}
use Rattle.std.proofs.lemmas.Iterator.{YieldsList-from_slice, cases_from_all}
use Rattle.policy_model.specs.Conditions.{ValueMatches}
use Rattle.policy_model.specs.declared.value.Value.{Value}
use Rattle.policy_eval.proofs.Tested.{all-tested}
use Rattle.policy_eval.proofs.conditions.all_match.Goals as goal

pub returns : goal.returns
returns c =
    let P : Value → Type 0 = ValueMatches c.args.kind c.args.condition.now in
    all-tested P _ _ (cases_from_all _ _ _ P (λ v. ¬ P v) c.all.ensures.ran (YieldsList-from_slice c.args.values.now cc) (λ x q k. search (rules, tests)) (λ x q k. search (rules, tests)))
