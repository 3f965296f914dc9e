use Rattle.std.proofs.Common.{◌+◌, ◌∷◌, [], map, drop, refl, sym, ap, List}
use Rattle.std.specs.List.{flat_map}
use Rattle.serde_json.specs.View.{view}
use Rattle.json_shapes.proofs.Laws.{all_read, from_end, from_here, one_more, refused_next, refused_whole}
use Rattle.policy_model.specs.declared.operator.Operand.{Operand}
use Rattle.policy_json.specs.Operands.{operand_of, value_checks}
use Rattle.policy_json.proofs.operands.read_operands.Goals as goal

pub returns-in_err-operand : goal.returns-in_err-operand
returns-in_err-operand c =
    let at = c.args.at in
    let checks = value_checks at.location at.key.now at.operator.base at.escapes in
    let meaning = operand_of at.operator.base at.escapes in
    let all = map view c.args.values.now in
    let next = from_here view c.args.values.now c.loop-value.value-index c.value-item.result c.loop-value-test.true c.value-item.is in
    refused_whole {X = Operand} {Y = List Operand} (checks (view c.value-item.result)) (flat_map checks all) (meaning (view c.value-item.result)) (map meaning all) _ _ c.from_residual.ensures.1
    (λ fault first. refused_next checks (map meaning) [] all _ _ (view c.value-item.result) _ fault c.loop-value.invariant next first) c.in_err-operand.ensures

pub returns : goal.returns
returns c =
    let at = c.args.at in
    let past = from_end view c.args.values.now c.loop-value.value-index c.loop-value-test.false in
    all_read (value_checks at.location at.key.now at.operator.base at.escapes) (map (operand_of at.operator.base at.escapes)) [] _ _ _ c.loop-value.invariant past refl

pub loop-value-preserved : goal.loop-value-preserved
loop-value-preserved c =
    let at = c.args.at in
    let meaning = operand_of at.operator.base at.escapes in
    let next = from_here view c.args.values.now c.loop-value.value-index c.value-item.result c.loop-value-test.true c.value-item.is in
    let rest = map view (drop (c.loop-value.value-index + 1) c.args.values.now) in
    let stands = ap (λ (o : Operand). o ∷ map meaning rest) (sym c.in_ok-operand.ensures.1) in
    one_more (value_checks at.location at.key.now at.operator.base at.escapes) (map meaning) [] _ _ _ (view c.value-item.result) _ (c.in_ok-operand.operand ∷ []) _ c.loop-value.invariant next c.in_ok-operand.ensures.0 stands c.in_ok-push.ensures.ok
