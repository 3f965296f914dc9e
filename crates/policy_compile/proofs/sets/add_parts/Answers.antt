use Rattle.std.proofs.Common.{◌++◌, ◌∷◌, [], ap}
use Rattle.policy_compile.specs.Sets.{grants_plan, guard_plans, no_deny_plan, set_plans}
use Rattle.policy_compile.proofs.Steps.{Added-one, Added-push, Added-then, at-plan, at-plans, fails-at, first-fails, front-fails, next-fails, plan-fails-at, plans-fault}
use Rattle.policy_compile.proofs.sets.add_parts.Goals as goal

pub returns-in_err-granted : goal.returns-in_err-granted
returns-in_err-granted c =
    let b = c.args.builder.now in
    let granting = grants_plan c.args.schema.now c.args.set.now.grants in
    let guarding = guard_plans c.args.schema.now c.args.set.now.guards in
    let denying = no_deny_plan c.args.schema.now c.args.set.now in
    plans-fault b c.grants.new.builder (set_plans c.args.schema.now c.args.set.now) c.args.indices.now c.args.indices.now c.from_residual.result c.in_err-granted.field-0.0 c.from_residual.ensures.1
    (first-fails b.tests.keys granting (guarding ++ denying ∷ []) c.in_err-granted.field-0.0
    (plan-fails-at b.tests.keys (grants_plan c.args.schema.now c.as_slice.result.now) granting c.in_err-granted.field-0.0 (ap (grants_plan c.args.schema.now) c.as_slice.ensures) c.in_err-granted.ensures))

pub returns-in_err-add_guards : goal.returns-in_err-add_guards
returns-in_err-add_guards c =
    let b = c.args.builder.now in
    let granting = grants_plan c.args.schema.now c.args.set.now.grants in
    let guarding = guard_plans c.args.schema.now c.args.set.now.guards in
    let denying = no_deny_plan c.args.schema.now c.args.set.now in
    let first = Added-one b c.grants.new.builder granting c.in_ok-granted.granted c.args.indices.now c.push.new.self (at-plan b c.grants.new.builder (grants_plan c.args.schema.now c.as_slice.result.now) granting c.in_ok-granted.granted (ap (grants_plan c.args.schema.now) c.as_slice.ensures) c.in_ok-granted.ensures) c.in_ok-push.ensures.ok in
    plans-fault b c.add_guards.new.builder (set_plans c.args.schema.now c.args.set.now) c.args.indices.now c.add_guards.new.indices c.from_residual-in_err-add_guards.result c.in_err-add_guards.field-0.0 c.from_residual-in_err-add_guards.ensures.1
    (next-fails b c.grants.new.builder (granting ∷ []) (guarding ++ denying ∷ []) c.args.indices.now c.push.new.self c.in_err-add_guards.field-0.0 first
    (front-fails c.grants.new.builder.tests.keys guarding (denying ∷ []) c.in_err-add_guards.field-0.0
    (fails-at c.grants.new.builder.tests.keys (guard_plans c.args.schema.now c.as_slice-2.result.now) guarding c.in_err-add_guards.field-0.0 (ap (guard_plans c.args.schema.now) c.as_slice-2.ensures) c.in_err-add_guards.ensures)))

pub returns-in_err-denied : goal.returns-in_err-denied
returns-in_err-denied c =
    let b = c.args.builder.now in
    let granting = grants_plan c.args.schema.now c.args.set.now.grants in
    let guarding = guard_plans c.args.schema.now c.args.set.now.guards in
    let denying = no_deny_plan c.args.schema.now c.args.set.now in
    let first = Added-one b c.grants.new.builder granting c.in_ok-granted.granted c.args.indices.now c.push.new.self (at-plan b c.grants.new.builder (grants_plan c.args.schema.now c.as_slice.result.now) granting c.in_ok-granted.granted (ap (grants_plan c.args.schema.now) c.as_slice.ensures) c.in_ok-granted.ensures) c.in_ok-push.ensures.ok in
    let second = at-plans c.grants.new.builder c.add_guards.new.builder (guard_plans c.args.schema.now c.as_slice-2.result.now) guarding c.push.new.self c.add_guards.new.indices (ap (guard_plans c.args.schema.now) c.as_slice-2.ensures) c.in_ok-add_guards.ensures in
    let both = Added-then b c.grants.new.builder c.add_guards.new.builder (granting ∷ []) guarding c.args.indices.now c.push.new.self c.add_guards.new.indices first second in
    plans-fault b c.no_deny.new.builder (set_plans c.args.schema.now c.args.set.now) c.args.indices.now c.add_guards.new.indices c.from_residual-in_err-denied.result c.in_err-denied.field-0.0 c.from_residual-in_err-denied.ensures.1
    (next-fails b c.add_guards.new.builder (granting ∷ guarding) (denying ∷ []) c.args.indices.now c.add_guards.new.indices c.in_err-denied.field-0.0 both
    (first-fails c.add_guards.new.builder.tests.keys denying [] c.in_err-denied.field-0.0 c.in_err-denied.ensures))

pub returns : goal.returns
returns c =
    let b = c.args.builder.now in
    let granting = grants_plan c.args.schema.now c.args.set.now.grants in
    let guarding = guard_plans c.args.schema.now c.args.set.now.guards in
    let denying = no_deny_plan c.args.schema.now c.args.set.now in
    let first = Added-one b c.grants.new.builder granting c.in_ok-granted.granted c.args.indices.now c.push.new.self (at-plan b c.grants.new.builder (grants_plan c.args.schema.now c.as_slice.result.now) granting c.in_ok-granted.granted (ap (grants_plan c.args.schema.now) c.as_slice.ensures) c.in_ok-granted.ensures) c.in_ok-push.ensures.ok in
    let second = at-plans c.grants.new.builder c.add_guards.new.builder (guard_plans c.args.schema.now c.as_slice-2.result.now) guarding c.push.new.self c.add_guards.new.indices (ap (guard_plans c.args.schema.now) c.as_slice-2.ensures) c.in_ok-add_guards.ensures in
    let both = Added-then b c.grants.new.builder c.add_guards.new.builder (granting ∷ []) guarding c.args.indices.now c.push.new.self c.add_guards.new.indices first second in
    Added-push b c.add_guards.new.builder c.no_deny.new.builder (granting ∷ guarding) denying c.in_ok-denied.denied c.args.indices.now c.add_guards.new.indices c.push-2.new.self both c.in_ok-denied.ensures c.in_ok-push-2.ensures.ok
