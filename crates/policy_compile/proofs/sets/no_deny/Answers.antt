use Rattle.std.proofs.Common.{◌++◌, ap, false, refl}
use Rattle.policy_compile.specs.Plans.{of_plans, one_of}
use Rattle.policy_compile.specs.Sets.{deny_plans, document_plans, guard_deny_plans, no_deny_plan}
use Rattle.policy_compile.specs.declared.nodes.Node.TheVariants as node
use Rattle.policy_compile.proofs.Steps.{Added-then, Added-within, at-plans, child-within, fails-at, from-empty, front-fails, next-fails, not-built, one_of-built, plan-fault}
use Rattle.policy_compile.proofs.sets.no_deny.Goals as goal

pub returns-in_err-add_documents : goal.returns-in_err-add_documents
returns-in_err-add_documents c =
    let b = c.args.builder.now in
    let grant_denies = document_plans c.args.schema.now false c.args.set.now.grants in
    let guard_denies = guard_deny_plans c.args.schema.now c.args.set.now.guards in
    plan-fault b c.add_documents.new.builder (no_deny_plan c.args.schema.now c.args.set.now) c.from_residual.result c.in_err-add_documents.field-0.0 c.from_residual.ensures.1
    (front-fails b.tests.keys grant_denies guard_denies c.in_err-add_documents.field-0.0
    (fails-at b.tests.keys (document_plans c.args.schema.now false c.as_slice.result.now) grant_denies c.in_err-add_documents.field-0.0 (ap (document_plans c.args.schema.now false) c.as_slice.ensures) c.in_err-add_documents.ensures))

pub returns-in_err-add_guard_denies : goal.returns-in_err-add_guard_denies
returns-in_err-add_guard_denies c =
    let b = c.args.builder.now in
    let grant_denies = document_plans c.args.schema.now false c.args.set.now.grants in
    let guard_denies = guard_deny_plans c.args.schema.now c.args.set.now.guards in
    let first = at-plans b c.add_documents.new.builder (document_plans c.args.schema.now false c.as_slice.result.now) grant_denies c.new-indices.result c.add_documents.new.indices (ap (document_plans c.args.schema.now false) c.as_slice.ensures) c.in_ok-add_documents.ensures in
    plan-fault b c.add_guard_denies.new.builder (no_deny_plan c.args.schema.now c.args.set.now) c.from_residual-in_err-add_guard_denies.result c.in_err-add_guard_denies.field-0.0 c.from_residual-in_err-add_guard_denies.ensures.1
    (next-fails b c.add_documents.new.builder grant_denies guard_denies c.new-indices.result c.add_documents.new.indices c.in_err-add_guard_denies.field-0.0 first
    (fails-at c.add_documents.new.builder.tests.keys (guard_deny_plans c.args.schema.now c.as_slice-2.result.now) guard_denies c.in_err-add_guard_denies.field-0.0 (ap (guard_deny_plans c.args.schema.now) c.as_slice-2.ensures) c.in_err-add_guard_denies.ensures))

pub insert-requires : goal.insert-requires
insert-requires c =
    let b = c.args.builder.now in
    let grant_denies = document_plans c.args.schema.now false c.args.set.now.grants in
    let guard_denies = guard_deny_plans c.args.schema.now c.args.set.now.guards in
    let first = at-plans b c.add_documents.new.builder (document_plans c.args.schema.now false c.as_slice.result.now) grant_denies c.new-indices.result c.add_documents.new.indices (ap (document_plans c.args.schema.now false) c.as_slice.ensures) c.in_ok-add_documents.ensures in
    let second = at-plans c.add_documents.new.builder c.add_guard_denies.new.builder (guard_deny_plans c.args.schema.now c.as_slice-2.result.now) guard_denies c.add_documents.new.indices c.add_guard_denies.new.indices (ap (guard_deny_plans c.args.schema.now) c.as_slice-2.ensures) c.in_ok-add_guard_denies.ensures in
    let both = Added-then b c.add_documents.new.builder c.add_guard_denies.new.builder grant_denies guard_denies c.new-indices.result c.add_documents.new.indices c.add_guard_denies.new.indices first second in
    let added = from-empty b c.add_guard_denies.new.builder (grant_denies ++ guard_denies) (grant_denies ++ guard_denies) c.new-indices.result c.add_guard_denies.new.indices c.new-indices.ensures refl both in
    Added-within b c.add_guard_denies.new.builder (grant_denies ++ guard_denies) c.add_guard_denies.new.indices added

pub insert-requires-2 : goal.insert-requires-2
insert-requires-2 c = child-within c.add_guard_denies.new.builder c.insert.new.self (node.OneOf c.add_guard_denies.new.indices) c.in_ok-some.some c.in_ok-some.ensures

pub returns : goal.returns
returns c =
    let b = c.args.builder.now in
    let grant_denies = document_plans c.args.schema.now false c.args.set.now.grants in
    let guard_denies = guard_deny_plans c.args.schema.now c.args.set.now.guards in
    let first = at-plans b c.add_documents.new.builder (document_plans c.args.schema.now false c.as_slice.result.now) grant_denies c.new-indices.result c.add_documents.new.indices (ap (document_plans c.args.schema.now false) c.as_slice.ensures) c.in_ok-add_documents.ensures in
    let second = at-plans c.add_documents.new.builder c.add_guard_denies.new.builder (guard_deny_plans c.args.schema.now c.as_slice-2.result.now) guard_denies c.add_documents.new.indices c.add_guard_denies.new.indices (ap (guard_deny_plans c.args.schema.now) c.as_slice-2.ensures) c.in_ok-add_guard_denies.ensures in
    let both = Added-then b c.add_documents.new.builder c.add_guard_denies.new.builder grant_denies guard_denies c.new-indices.result c.add_documents.new.indices c.add_guard_denies.new.indices first second in
    let added = from-empty b c.add_guard_denies.new.builder (grant_denies ++ guard_denies) (grant_denies ++ guard_denies) c.new-indices.result c.add_guard_denies.new.indices c.new-indices.ensures refl both in
    not-built b c.insert.new.self c.insert-2.new.self (one_of (of_plans (deny_plans c.args.schema.now c.args.set.now))) c.in_ok-some.some c.in_ok-index.index
    (one_of-built b c.add_guard_denies.new.builder c.insert.new.self (deny_plans c.args.schema.now c.args.set.now) c.add_guard_denies.new.indices c.in_ok-some.some added c.in_ok-some.ensures) c.in_ok-index.ensures
