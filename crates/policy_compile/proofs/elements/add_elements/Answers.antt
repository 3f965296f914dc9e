use Rattle.std.proofs.Common.{[], ◌∷◌, ap}
use Rattle.policy_compile.specs.Conditions.{conditions_plan}
use Rattle.policy_compile.specs.Sets.{element_plans, patterns_plan, principal_plan, resource_plan}
use Rattle.policy_compile.specs.declared.elements.RequestWord.TheVariants as word
use Rattle.policy_compile.proofs.Steps.{Added-one, Added-push, at-plan, first-fails, next-fails, plan-fails-at, plans-fault}
use Rattle.policy_compile.proofs.elements.add_elements.Goals as goal

pub returns-in_err-principal : goal.returns-in_err-principal
returns-in_err-principal c =
    let s = c.args.statement.now in
    plans-fault c.args.builder.now c.principal.new.builder (element_plans c.args.schema.now c.args.statement.now) c.args.indices.now c.args.indices.now c.from_residual.result c.in_err-principal.field-0.0 c.from_residual.ensures.1
    (first-fails c.args.builder.now.tests.keys (principal_plan s.principal) (patterns_plan word.Action s.action ∷ resource_plan s.resource ∷ conditions_plan c.args.schema.now s.conditions ∷ []) c.in_err-principal.field-0.0 c.in_err-principal.ensures)

pub returns-in_err-action : goal.returns-in_err-action
returns-in_err-action c =
    let s = c.args.statement.now in
    let one = Added-one c.args.builder.now c.principal.new.builder (principal_plan s.principal) c.in_ok-principal.principal c.args.indices.now c.push.new.self c.in_ok-principal.ensures c.in_ok-push.ensures.ok in
    plans-fault c.args.builder.now c.patterns.new.builder (element_plans c.args.schema.now c.args.statement.now) c.args.indices.now c.push.new.self c.from_residual-in_err-action.result c.in_err-action.field-0.0 c.from_residual-in_err-action.ensures.1
    (next-fails c.args.builder.now c.principal.new.builder (principal_plan s.principal ∷ []) (patterns_plan word.Action s.action ∷ resource_plan s.resource ∷ conditions_plan c.args.schema.now s.conditions ∷ []) c.args.indices.now c.push.new.self c.in_err-action.field-0.0 one
    (first-fails c.principal.new.builder.tests.keys (patterns_plan word.Action s.action) (resource_plan s.resource ∷ conditions_plan c.args.schema.now s.conditions ∷ []) c.in_err-action.field-0.0 c.in_err-action.ensures))

pub returns-in_err-resource : goal.returns-in_err-resource
returns-in_err-resource c =
    let s = c.args.statement.now in
    let one = Added-one c.args.builder.now c.principal.new.builder (principal_plan s.principal) c.in_ok-principal.principal c.args.indices.now c.push.new.self c.in_ok-principal.ensures c.in_ok-push.ensures.ok in
    let two = Added-push c.args.builder.now c.principal.new.builder c.patterns.new.builder (principal_plan s.principal ∷ []) (patterns_plan word.Action s.action) c.in_ok-action.action c.args.indices.now c.push.new.self c.push-2.new.self one c.in_ok-action.ensures c.in_ok-push-2.ensures.ok in
    plans-fault c.args.builder.now c.resource.new.builder (element_plans c.args.schema.now c.args.statement.now) c.args.indices.now c.push-2.new.self c.from_residual-in_err-resource.result c.in_err-resource.field-0.0 c.from_residual-in_err-resource.ensures.1
    (next-fails c.args.builder.now c.patterns.new.builder (principal_plan s.principal ∷ patterns_plan word.Action s.action ∷ []) (resource_plan s.resource ∷ conditions_plan c.args.schema.now s.conditions ∷ []) c.args.indices.now c.push-2.new.self c.in_err-resource.field-0.0 two
    (first-fails c.patterns.new.builder.tests.keys (resource_plan s.resource) (conditions_plan c.args.schema.now s.conditions ∷ []) c.in_err-resource.field-0.0 c.in_err-resource.ensures))

pub returns-in_err-conditions : goal.returns-in_err-conditions
returns-in_err-conditions c =
    let s = c.args.statement.now in
    let one = Added-one c.args.builder.now c.principal.new.builder (principal_plan s.principal) c.in_ok-principal.principal c.args.indices.now c.push.new.self c.in_ok-principal.ensures c.in_ok-push.ensures.ok in
    let two = Added-push c.args.builder.now c.principal.new.builder c.patterns.new.builder (principal_plan s.principal ∷ []) (patterns_plan word.Action s.action) c.in_ok-action.action c.args.indices.now c.push.new.self c.push-2.new.self one c.in_ok-action.ensures c.in_ok-push-2.ensures.ok in
    let three = Added-push c.args.builder.now c.patterns.new.builder c.resource.new.builder (principal_plan s.principal ∷ patterns_plan word.Action s.action ∷ []) (resource_plan s.resource) c.in_ok-resource.resource c.args.indices.now c.push-2.new.self c.push-3.new.self two c.in_ok-resource.ensures c.in_ok-push-3.ensures.ok in
    plans-fault c.args.builder.now c.conditions.new.builder (element_plans c.args.schema.now c.args.statement.now) c.args.indices.now c.push-3.new.self c.from_residual-in_err-conditions.result c.in_err-conditions.field-0.0 c.from_residual-in_err-conditions.ensures.1
    (next-fails c.args.builder.now c.resource.new.builder (principal_plan s.principal ∷ patterns_plan word.Action s.action ∷ resource_plan s.resource ∷ []) (conditions_plan c.args.schema.now s.conditions ∷ []) c.args.indices.now c.push-3.new.self c.in_err-conditions.field-0.0 three
    (first-fails c.resource.new.builder.tests.keys (conditions_plan c.args.schema.now s.conditions) [] c.in_err-conditions.field-0.0
    (plan-fails-at c.resource.new.builder.tests.keys (conditions_plan c.args.schema.now c.as_slice.result.now) (conditions_plan c.args.schema.now s.conditions) c.in_err-conditions.field-0.0 (ap (conditions_plan c.args.schema.now) c.as_slice.ensures) c.in_err-conditions.ensures)))

pub returns : goal.returns
returns c =
    let s = c.args.statement.now in
    let one = Added-one c.args.builder.now c.principal.new.builder (principal_plan s.principal) c.in_ok-principal.principal c.args.indices.now c.push.new.self c.in_ok-principal.ensures c.in_ok-push.ensures.ok in
    let two = Added-push c.args.builder.now c.principal.new.builder c.patterns.new.builder (principal_plan s.principal ∷ []) (patterns_plan word.Action s.action) c.in_ok-action.action c.args.indices.now c.push.new.self c.push-2.new.self one c.in_ok-action.ensures c.in_ok-push-2.ensures.ok in
    let three = Added-push c.args.builder.now c.patterns.new.builder c.resource.new.builder (principal_plan s.principal ∷ patterns_plan word.Action s.action ∷ []) (resource_plan s.resource) c.in_ok-resource.resource c.args.indices.now c.push-2.new.self c.push-3.new.self two c.in_ok-resource.ensures c.in_ok-push-3.ensures.ok in
    Added-push c.args.builder.now c.resource.new.builder c.conditions.new.builder (principal_plan s.principal ∷ patterns_plan word.Action s.action ∷ resource_plan s.resource ∷ []) (conditions_plan c.args.schema.now s.conditions) c.in_ok-conditions.conditions c.args.indices.now c.push-3.new.self c.push-4.new.self three (at-plan c.resource.new.builder c.conditions.new.builder (conditions_plan c.args.schema.now c.as_slice.result.now) (conditions_plan c.args.schema.now s.conditions) c.in_ok-conditions.conditions (ap (conditions_plan c.args.schema.now) c.as_slice.ensures) c.in_ok-conditions.ensures) c.in_ok-push-4.ensures.ok
