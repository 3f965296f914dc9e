use Rattle.std.proofs.Common.{rules, ◌≡◌, ◌∷◌, ◌++◌, ◌∙◌, [], List, ap, sym}
use Rattle.std.specs.List.{flat_map}
use Rattle.std.proofs.lemmas.Fn.{always_returns_same}
use Rattle.std.proofs.lemmas.List.{append-nil, append_assoc}
use Rattle.policy_model.specs.declared.operator.Condition.{Condition}
use Rattle.policy_compile.specs.Conditions.{group_plan, operator_groups, operator_plans, same_operator}
use Rattle.policy_compile.proofs.Grouping.{next-group, no-groups}
use Rattle.policy_compile.proofs.Steps.{Added-nothing, Added-one, at-plans, behind-added, behind-fails, first-fails, plans-fault}
use Rattle.policy_compile.proofs.conditions.add_operators.Goals as goal

pub loop-keys-init : goal.loop-keys-init
loop-keys-init c = ([], Added-nothing c.args.builder.now c.args.indices.now, search rules)

pub returns-in_err-index : goal.returns-in_err-index
returns-in_err-index c =
    let steps = c.in-Some.ensures.steps in
    let done = c.loop-keys.invariant in
    let left = operator_groups c.next.new.self.rest.now in
    let first : operator_groups c.loop-keys.keys-iterator.rest.now ≡ c.in-Some.keys.now ∷ left =
    next-group c.loop-keys.keys-iterator.rest.now c.in-Some.keys.now c.next.new.self.rest.now steps.0 steps.1 (steps.2 same_operator (always_returns_same _ _ _ (λ a r f' k. search rules))).1 in
    plans-fault c.args.builder.now c.group.new.builder (operator_plans c.args.schema.now c.args.conditions.now) c.args.indices.now c.loop-keys.indices c.from_residual.result c.in_err-index.field-0.0 c.from_residual.ensures.1
    (behind-fails (λ (g : List Condition). group_plan c.args.schema.now g ∷ []) (operator_groups c.args.conditions.now) done.0 c.in-Some.keys.now left (done.2 ∙ ap (λ gs. done.0 ++ gs) first) c.args.builder.now c.loop-keys.builder c.args.indices.now c.loop-keys.indices c.in_err-index.field-0.0 done.1
    (first-fails c.loop-keys.builder.tests.keys (group_plan c.args.schema.now c.in-Some.keys.now) [] c.in_err-index.field-0.0 c.in_err-index.ensures))

pub loop-keys-preserved : goal.loop-keys-preserved
loop-keys-preserved c =
    let steps = c.in-Some.ensures.steps in
    let done = c.loop-keys.invariant in
    let left = operator_groups c.next.new.self.rest.now in
    let first : operator_groups c.loop-keys.keys-iterator.rest.now ≡ c.in-Some.keys.now ∷ left =
    next-group c.loop-keys.keys-iterator.rest.now c.in-Some.keys.now c.next.new.self.rest.now steps.0 steps.1 (steps.2 same_operator (always_returns_same _ _ _ (λ a r f' k. search rules))).1 in (
      done.0 ++ c.in-Some.keys.now ∷ [],
      behind-added (λ (g : List Condition). group_plan c.args.schema.now g ∷ []) done.0 c.in-Some.keys.now c.args.builder.now c.loop-keys.builder c.group.new.builder c.args.indices.now c.loop-keys.indices c.push.new.self done.1
          (Added-one c.loop-keys.builder c.group.new.builder (group_plan c.args.schema.now c.in-Some.keys.now) c.in_ok-index.index c.loop-keys.indices c.push.new.self c.in_ok-index.ensures c.in_ok-push.ensures.ok),
      done.2 ∙ ap (λ gs. done.0 ++ gs) first ∙ sym (append_assoc done.0 (c.in-Some.keys.now ∷ []) left),
    )

pub returns : goal.returns
returns c =
    let done = c.loop-keys.invariant in
    let all : operator_groups c.args.conditions.now ≡ done.0 = done.2 ∙ ap (λ gs. done.0 ++ gs) (no-groups c.loop-keys.keys-iterator.rest.now c.in-None.ensures.steps.0) ∙ append-nil done.0 in
    at-plans c.args.builder.now c.loop-keys.builder (flat_map (λ (g : List Condition). group_plan c.args.schema.now g ∷ []) done.0) (operator_plans c.args.schema.now c.args.conditions.now) c.args.indices.now c.loop-keys.indices
    (ap (flat_map (λ (g : List Condition). group_plan c.args.schema.now g ∷ [])) (sym all)) done.1
