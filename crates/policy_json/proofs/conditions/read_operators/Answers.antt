use Rattle.std.proofs.Common.{[], refl, ap, ℕ, List, String, Global}
use Rattle.std.specs.List.{flat_map}
use Rattle.serde_json.specs.Data.{Data}
use Rattle.serde_json.specs.View.{view, members_view}
use Rattle.serde_json.specs.declared.value.Value.{Value}
use Rattle.policy_model.specs.declared.operator.Condition.{Condition}
use Rattle.json_shapes.specs.Json.{pairs_of}
use Rattle.json_shapes.proofs.Laws.{all_read, one_more, pairs_from, refused_next, refused_whole}
use Rattle.policy_json.specs.Conditions.{conditions_under, operator_checks}
use Rattle.policy_json.proofs.conditions.read_operators.Goals as goal

pub returns-in_err-read_operator : goal.returns-in_err-read_operator
returns-in_err-read_operator c =
    let checks = operator_checks c.args.location c.args.escapes in
    let meaning = flat_map (conditions_under c.args.escapes) in
    let pair : List ℕ × Data = (c.as_str.result.now, view c.in-Some.keys.now) in
    let all = pairs_of (members_view c.args.operators.now.entries) in
    let next = pairs_from c.loop-name.name-iterator c.next.new.self c.in-Some.name.now c.in-Some.keys.now c.as_str.result.now c.in-Some.ensures.steps c.as_str.ensures.value in
    refused_whole {X = Unit {0}} {Y = List Condition} (checks pair) (flat_map checks all) tt (meaning all) _ _ c.from_residual.ensures.1
    (λ fault first. refused_next checks meaning [] all _ _ pair _ fault c.loop-name.invariant.read next first) c.in_err-read_operator.ensures.read

pub returns : goal.returns
returns c =
    let past = ap (λ (ms : List (String Global × Value)). pairs_of (members_view ms)) c.in-None.ensures.steps.0 in
    all_read (operator_checks c.args.location c.args.escapes) (flat_map (conditions_under c.args.escapes)) [] _ _ _ c.loop-name.invariant.read past refl

pub loop-name-preserved : goal.loop-name-preserved
loop-name-preserved c =
    let pair : List ℕ × Data = (c.as_str.result.now, view c.in-Some.keys.now) in
    let next = pairs_from c.loop-name.name-iterator c.next.new.self c.in-Some.name.now c.in-Some.keys.now c.as_str.result.now c.in-Some.ensures.steps c.as_str.ensures.value in
    record {
      can_next = tt;
      is_finite = tt;
      read = one_more (operator_checks c.args.location c.args.escapes) (flat_map (conditions_under c.args.escapes)) [] _ _ _ pair _ (conditions_under c.args.escapes pair) _ c.loop-name.invariant.read next c.in_ok-read_operator.ensures.read.0 refl c.in_ok-read_operator.ensures.added;
    }
