use Rattle.std.proofs.Common.{◌≡◌, ◌∙◌, ℕ, List, ap, sym, subst}
use Rattle.policy_model.specs.declared.principal.PrincipalKind.{PrincipalKind}
use Rattle.policy_model.specs.declared.request.Request.{Request}
use Rattle.policy_model.specs.Requests.{IsValid}
use Rattle.slot_theory.specs.Possible.{AnswersPath}
use Rattle.request_build.specs.Built.{KeysAreStated}
use Rattle.request_build.specs.Taken.{action_in, context_in, principal_in, resource_in}
use Rattle.request_build.proofs.Joining.{all-permitted, action-stated, joined-answers, joined-is, joined-valid, keys-stated, principal-stated, resource-stated}
use Rattle.request_build.proofs.request.build.Goals as goal

pub returns : goal.returns
returns c =
    let schema = c.args.schema.now in
    let tests = c.args._tests.now in
    let path = c.args._path.now in
    let values = c.args.values.now in
    let are = c.requires.values in
    let order = c.in_ok-context_in.ensures.ordered in
    let p : (c.in_ok-kind.kind, c.in_ok-kind.id) ≡ principal_in schema.shapes values = c.in_ok-kind.ensures ∙ ap (principal_in schema.shapes) c.as_slice-values.ensures in
    let a : c.in_ok-action_in.field-0 ≡ action_in schema.shapes values = c.in_ok-action_in.ensures ∙ ap (action_in schema.shapes) c.as_slice-values.ensures in
    let r : c.in_ok-resource_in.field-0 ≡ resource_in schema.shapes values = c.in_ok-resource_in.ensures ∙ ap (resource_in schema.shapes) c.as_slice-values.ensures in
    let k : c.in_ok-context_in.field-0 ≡ context_in values schema.keys = rw c.as_slice-values.ensures at c.in_ok-context_in.ensures.value in
    let same = joined-is schema values c.in_ok-kind.kind c.in_ok-kind.id c.in_ok-action_in.field-0 c.in_ok-resource_in.field-0 c.in_ok-context_in.field-0 p a r k in
    record {
      joined = same;
      valid = subst (IsValid schema) (sym same) (joined-valid schema values c.requires.sound order (all-permitted schema tests path values are.each));
      answers = subst (λ (q : Request). AnswersPath tests path q) (sym same) (joined-answers schema tests path values order are);
      principal = λ none. let stated = principal-stated schema tests path values order are none in (ap (λ (q : PrincipalKind × List ℕ). q.0) p ∙ stated.0, ap (λ (q : PrincipalKind × List ℕ). q.1) p ∙ stated.1);
      action = λ none. a ∙ action-stated schema tests path values order are none;
      resource = λ none. r ∙ resource-stated schema tests path values order are none;
      keys = subst (λ (q : Request). KeysAreStated schema tests path q) (sym same) (keys-stated schema tests path values order are);
    }
