use Rattle.std.proofs.Common.{◌∷◌, [], ap, subst}
use Rattle.policy_model.specs.declared.principal.Entry.{Entry}
use Rattle.policy_model.specs.declared.test.Test.TheVariants.{Principal}
use Rattle.policy_compile.specs.Plans.{Plan, ask, tests_in}
use Rattle.policy_compile.specs.Building.{Fails}
use Rattle.policy_compile.specs.Sets.{entry_plans}
use Rattle.policy_compile.proofs.Steps.{Added-nothing, Added-one, at-plan, first-fails, item-added, item-fails, items-added, plans-fault}
use Rattle.policy_compile.proofs.elements.add_entries.Goals as goal

pub loop-item-init : goal.loop-item-init
loop-item-init c = Added-nothing c.args.builder.now c.args.indices.now

pub returns-in_err-index : goal.returns-in_err-index
returns-in_err-index c =
    plans-fault c.args.builder.now c.ask.new.self (entry_plans c.args.items.now) c.args.indices.now c.loop-item.indices c.from_residual-in_err-index.result c.in_err-index.field-0.0 c.from_residual-in_err-index.ensures.1
    (item-fails (λ (e : Entry). ask (Principal e) ∷ []) c.args.items.now c.loop-item.item-index c.item-item.result c.loop-item-test.true c.item-item.is c.args.builder.now c.loop-item.builder c.args.indices.now c.loop-item.indices c.in_err-index.field-0.0 c.loop-item.invariant
    (first-fails c.loop-item.builder.tests.keys (ask (Principal c.item-item.result)) [] c.in_err-index.field-0.0 (subst (λ (p : Plan). Fails c.loop-item.builder.tests.keys (tests_in p) c.in_err-index.field-0.0) (ap (λ (e : Entry). ask (Principal e)) c.in_ok-copy.ensures) c.in_err-index.ensures)))

pub loop-item-preserved : goal.loop-item-preserved
loop-item-preserved c =
    item-added (λ (e : Entry). ask (Principal e) ∷ []) c.args.items.now c.loop-item.item-index c.item-item.result c.loop-item-test.true c.item-item.is c.args.builder.now c.loop-item.builder c.ask.new.self c.args.indices.now c.loop-item.indices c.push.new.self c.loop-item.invariant
    (Added-one c.loop-item.builder c.ask.new.self (ask (Principal c.item-item.result)) c.in_ok-index.index c.loop-item.indices c.push.new.self (at-plan c.loop-item.builder c.ask.new.self (ask (Principal c.in_ok-copy.field-0)) (ask (Principal c.item-item.result)) c.in_ok-index.index (ap (λ (e : Entry). ask (Principal e)) c.in_ok-copy.ensures) c.in_ok-index.ensures) c.in_ok-push.ensures.ok)

pub returns : goal.returns
returns c = items-added (λ (e : Entry). ask (Principal e) ∷ []) c.args.items.now c.loop-item.item-index c.loop-item-test.false c.args.builder.now c.loop-item.builder c.args.indices.now c.loop-item.indices c.loop-item.invariant
