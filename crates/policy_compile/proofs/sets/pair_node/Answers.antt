use Rattle.std.proofs.Common.{◌∷◌, [], refl}
use Rattle.policy_compile.specs.Plans.{not}
use Rattle.policy_compile.specs.Sets.{query_plan, set_plan}
use Rattle.policy_compile.proofs.Steps.{Added-one, Added-push, Added-within, all-built, first-fails, from-empty, next-fails, plan-fault}
use Rattle.policy_compile.proofs.sets.pair_node.Goals as goal

pub returns-in_err-allowed : goal.returns-in_err-allowed
returns-in_err-allowed c =
    let b = c.args.builder.now in
    let allowing = set_plan c.args.schema.now c.args.first.now in
    let refusing = not (set_plan c.args.schema.now c.args.second.now) in
    plan-fault b c.set_node.new.builder (query_plan c.args.schema.now c.args.first.now c.args.second.now) c.from_residual.result c.in_err-allowed.field-0.0 c.from_residual.ensures.1
    (first-fails b.tests.keys allowing (refusing ∷ []) c.in_err-allowed.field-0.0 c.in_err-allowed.ensures)

pub returns-in_err-denied : goal.returns-in_err-denied
returns-in_err-denied c =
    let b = c.args.builder.now in
    let allowing = set_plan c.args.schema.now c.args.first.now in
    let refusing = not (set_plan c.args.schema.now c.args.second.now) in
    let one = Added-one b c.set_node.new.builder allowing c.in_ok-allowed.allowed c.new-indices.result c.push.new.self c.in_ok-allowed.ensures c.in_ok-push.ensures.ok in
    plan-fault b c.refused.new.builder (query_plan c.args.schema.now c.args.first.now c.args.second.now) c.from_residual-in_err-denied.result c.in_err-denied.field-0.0 c.from_residual-in_err-denied.ensures.1
    (next-fails b c.set_node.new.builder (allowing ∷ []) (refusing ∷ []) c.new-indices.result c.push.new.self c.in_err-denied.field-0.0 one
    (first-fails c.set_node.new.builder.tests.keys refusing [] c.in_err-denied.field-0.0 c.in_err-denied.ensures))

pub insert-requires : goal.insert-requires
insert-requires c =
    let b = c.args.builder.now in
    let allowing = set_plan c.args.schema.now c.args.first.now in
    let refusing = not (set_plan c.args.schema.now c.args.second.now) in
    let one = Added-one b c.set_node.new.builder allowing c.in_ok-allowed.allowed c.new-indices.result c.push.new.self c.in_ok-allowed.ensures c.in_ok-push.ensures.ok in
    let both = Added-push b c.set_node.new.builder c.refused.new.builder (allowing ∷ []) refusing c.in_ok-denied.denied c.new-indices.result c.push.new.self c.push-2.new.self one c.in_ok-denied.ensures c.in_ok-push-2.ensures.ok in
    let added = from-empty b c.refused.new.builder (allowing ∷ refusing ∷ []) (allowing ∷ refusing ∷ []) c.new-indices.result c.push-2.new.self c.new-indices.ensures refl both in
    Added-within b c.refused.new.builder (allowing ∷ refusing ∷ []) c.push-2.new.self added

pub returns : goal.returns
returns c =
    let b = c.args.builder.now in
    let allowing = set_plan c.args.schema.now c.args.first.now in
    let refusing = not (set_plan c.args.schema.now c.args.second.now) in
    let one = Added-one b c.set_node.new.builder allowing c.in_ok-allowed.allowed c.new-indices.result c.push.new.self c.in_ok-allowed.ensures c.in_ok-push.ensures.ok in
    let both = Added-push b c.set_node.new.builder c.refused.new.builder (allowing ∷ []) refusing c.in_ok-denied.denied c.new-indices.result c.push.new.self c.push-2.new.self one c.in_ok-denied.ensures c.in_ok-push-2.ensures.ok in
    let added = from-empty b c.refused.new.builder (allowing ∷ refusing ∷ []) (allowing ∷ refusing ∷ []) c.new-indices.result c.push-2.new.self c.new-indices.ensures refl both in
    all-built b c.refused.new.builder c.insert.new.self (allowing ∷ refusing ∷ []) c.push-2.new.self c.in_ok-index.index added c.in_ok-index.ensures
