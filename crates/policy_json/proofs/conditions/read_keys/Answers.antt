use Rattle.std.proofs.Common.{◌∷◌, [], map, refl, sym, ap, ℕ, List, String, Global}
use Rattle.std.specs.List.{flat_map}
use Rattle.serde_json.specs.Data.{Data}
use Rattle.serde_json.specs.View.{view, members_view}
use Rattle.serde_json.specs.declared.value.Value.{Value}
use Rattle.policy_model.specs.declared.operator.Condition.{Condition}
use Rattle.json_shapes.specs.Json.{pairs_of}
use Rattle.json_shapes.proofs.Laws.{all_read, one_more, pairs_from, refused_next, refused_whole}
use Rattle.policy_json.specs.Conditions.{condition_of, key_checks}
use Rattle.policy_json.proofs.conditions.read_keys.Goals as goal

pub returns-in_err-condition-clause-read : goal.returns-in_err-condition-clause-read
returns-in_err-condition-clause-read c =
    let checks = key_checks c.args.location c.args.operator c.args.escapes in
    let meaning = condition_of c.args.operator c.args.escapes in
    let pair : List ℕ × Data = (c.as_str.result.now, view c.in-Some.value.now) in
    let all = pairs_of (members_view c.args.keys.now.entries) in
    let next = pairs_from c.loop-key.key-iterator c.next.new.self c.in-Some.key.now c.in-Some.value.now c.as_str.result.now c.in-Some.ensures.steps c.as_str.ensures.value in
    refused_whole {X = Condition} {Y = Unit {0}} (checks pair) (flat_map checks all) (meaning pair) tt _ _ c.from_residual.ensures.1
    (λ fault first. refused_next checks (map meaning) _ all _ _ pair _ fault c.loop-key.invariant.read next first) c.in_err-condition.ensures

pub returns-clause-read : goal.returns-clause-read
returns-clause-read c =
    let past = ap (λ (ms : List (String Global × Value)). pairs_of (members_view ms)) c.in-None.ensures.steps.0 in
    ((all_read (key_checks c.args.location c.args.operator c.args.escapes) (map (condition_of c.args.operator c.args.escapes)) _ _ _ _ c.loop-key.invariant.read past refl).0, refl)

pub returns-clause-added : goal.returns-clause-added
returns-clause-added c =
    let past = ap (λ (ms : List (String Global × Value)). pairs_of (members_view ms)) c.in-None.ensures.steps.0 in
    (all_read (key_checks c.args.location c.args.operator c.args.escapes) (map (condition_of c.args.operator c.args.escapes)) _ _ _ _ c.loop-key.invariant.read past refl).1

pub loop-key-preserved : goal.loop-key-preserved
loop-key-preserved c =
    let meaning = condition_of c.args.operator c.args.escapes in
    let pair : List ℕ × Data = (c.as_str.result.now, view c.in-Some.value.now) in
    let next = pairs_from c.loop-key.key-iterator c.next.new.self c.in-Some.key.now c.in-Some.value.now c.as_str.result.now c.in-Some.ensures.steps c.as_str.ensures.value in
    let rest = pairs_of (members_view c.next.new.self) in
    let stands = ap (λ (o : Condition). o ∷ map meaning rest) (sym c.in_ok-condition.ensures.1) in
    record {
      can_next = tt;
      is_finite = tt;
      read = one_more (key_checks c.args.location c.args.operator c.args.escapes) (map meaning) _ _ _ _ pair _ (c.in_ok-condition.condition ∷ []) _ c.loop-key.invariant.read next c.in_ok-condition.ensures.0 stands c.in_ok-push.ensures.ok;
    }
