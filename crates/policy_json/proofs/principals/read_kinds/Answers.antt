use Rattle.std.proofs.Common.{[], refl, ap, ℕ, List, String, Global}
use Rattle.std.specs.List.{flat_map}
use Rattle.serde_json.specs.Data.{Data}
use Rattle.serde_json.specs.View.{view, members_view}
use Rattle.serde_json.specs.declared.value.Value.{Value}
use Rattle.policy_model.specs.declared.principal.Entry.{Entry}
use Rattle.json_shapes.specs.Json.{pairs_of}
use Rattle.policy_json.specs.Principals.{entries_of_kind, kind_checks}
use Rattle.json_shapes.proofs.Laws.{all_read, one_more, refused_next, pairs_from, refused_whole}
use Rattle.policy_json.proofs.principals.read_kinds.Goals as goal

pub returns-in_err-read_kind : goal.returns-in_err-read_kind
returns-in_err-read_kind c =
    let checks = kind_checks c.args.location c.args.name.now in
    let pair : List ℕ × Data = (c.as_str.result.now, view c.in-Some.ids.now) in
    let all = pairs_of (members_view c.args.kinds.now.entries) in
    let next = pairs_from c.loop-kind_name.kind_name-iterator c.next.new.self c.in-Some.kind_name.now c.in-Some.ids.now c.as_str.result.now c.in-Some.ensures.steps c.as_str.ensures.value in
    refused_whole {X = Unit {0}} {Y = List Entry} (checks pair) (flat_map checks all) tt (flat_map entries_of_kind all) _ _ c.from_residual.ensures.1
    (λ fault first. refused_next checks (flat_map entries_of_kind) [] all _ _ pair _ fault c.loop-kind_name.invariant.read next first) c.in_err-read_kind.ensures.read

pub returns : goal.returns
returns c =
    let past = ap (λ (ms : List (String Global × Value)). pairs_of (members_view ms)) c.in-None.ensures.steps.0 in
    all_read (kind_checks c.args.location c.args.name.now) (flat_map entries_of_kind) [] _ _ _ c.loop-kind_name.invariant.read past refl

pub loop-kind_name-preserved : goal.loop-kind_name-preserved
loop-kind_name-preserved c =
    let pair : List ℕ × Data = (c.as_str.result.now, view c.in-Some.ids.now) in
    let next = pairs_from c.loop-kind_name.kind_name-iterator c.next.new.self c.in-Some.kind_name.now c.in-Some.ids.now c.as_str.result.now c.in-Some.ensures.steps c.as_str.ensures.value in
    record {
      can_next = tt;
      is_finite = tt;
      read = one_more (kind_checks c.args.location c.args.name.now) (flat_map entries_of_kind) [] _ _ _ pair _ (entries_of_kind pair) _ c.loop-kind_name.invariant.read next c.in_ok-read_kind.ensures.read.0 refl c.in_ok-read_kind.ensures.added;
    }
