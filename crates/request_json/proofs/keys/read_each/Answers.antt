use Rattle.std.proofs.Common.{List, All, subst, ap, map, drop, ◌+◌, sym, ◌≡◌, Some}
use Rattle.std.proofs.lemmas.List.Elements.{All-push}
use Rattle.json_shapes.proofs.Laws.{from_here}
use Rattle.serde_json.specs.Data.{Data}
use Rattle.serde_json.specs.View.{view}
use Rattle.policy_model.specs.Requests.{IsOfKind}
use Rattle.request_schema.specs.SchemaRules.{string_in}
use Rattle.request_schema.specs.ValueTexts.{value_written}
use Rattle.request_schema.proofs.Listed.{one-more-value}
use Rattle.request_json.proofs.keys.read_each.Goals as goal

pub loop-value-preserved : goal.loop-value-preserved
loop-value-preserved c =
    let here = from_here view c.args.values.now c.loop-value.value-index c.value-item.result c.loop-value-test.true c.value-item.is in
    let strings = λ (ds : List Data). map string_in ds in
    let written : value_written c.args.kind (string_in (view c.value-item.result)) ≡ Some c.in-Some.value = cc (c.in_ok-value.ensures.value, c.string_in.ensures) in
    let more = one-more-value c.args.kind (strings (map view c.args.values.now)) _ (strings (map view (drop (c.loop-value.value-index + 1) c.args.values.now))) (string_in (view c.value-item.result)) c.in-Some.value c.loop-value.read c.push.new.self
    (ap strings here) written c.loop-value.invariant.passes c.loop-value.invariant.values c.in_ok-push.ensures.ok in
    let of_kind : IsOfKind c.args.kind c.in-Some.value = rw c.in-Some.is at c.in_ok-value.ensures.kind in
    record {
      passes = more.0;
      values = more.1;
      kind = subst (All (IsOfKind c.args.kind)) (sym c.in_ok-push.ensures.ok) (All-push (IsOfKind c.args.kind) c.loop-value.read c.in-Some.value c.loop-value.invariant.kind of_kind);
    }
