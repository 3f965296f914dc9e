use Rattle.std.proofs.Common.{◌+◌, ◌∷◌, [], map, drop, refl, sym, ap}
use Rattle.std.specs.List.{flat_map}
use Rattle.serde_json.specs.Data.{Data}
use Rattle.serde_json.specs.View.{view}
use Rattle.policy_model.specs.declared.principal.Entry.{Entry}
use Rattle.policy_json.specs.Principals.{entry_of, id_checks}
use Rattle.json_shapes.specs.Json.{text_of}
use Rattle.json_shapes.proofs.Laws.{all_read, from_end, from_here, one_more, refused_next, refused_whole}
use Rattle.policy_json.proofs.principals.read_ids.Goals as goal

pub returns-in_err-entry-clause-read : goal.returns-in_err-entry-clause-read
returns-in_err-entry-clause-read c =
    let checks = id_checks c.args.location c.args.name.now in
    let meaning = λ (d : Data). entry_of c.args.kind (text_of d) in
    let all = map view c.args.values.now in
    let next = from_here view c.args.values.now c.loop-value.value-index c.value-item.result c.loop-value-test.true c.value-item.is in
    refused_whole {X = Entry} {Y = Unit {0}} (checks (view c.value-item.result)) (flat_map checks all) (meaning (view c.value-item.result)) tt _ _ c.from_residual.ensures.1
    (λ fault first. refused_next checks (map meaning) _ all _ _ (view c.value-item.result) _ fault c.loop-value.invariant next first) c.in_err-entry.ensures

pub returns-clause-read : goal.returns-clause-read
returns-clause-read c =
    let meaning = λ (d : Data). entry_of c.args.kind (text_of d) in
    let past = from_end view c.args.values.now c.loop-value.value-index c.loop-value-test.false in
    ((all_read (id_checks c.args.location c.args.name.now) (map meaning) _ _ _ _ c.loop-value.invariant past refl).0, refl)

pub returns-clause-added : goal.returns-clause-added
returns-clause-added c =
    let meaning = λ (d : Data). entry_of c.args.kind (text_of d) in
    let past = from_end view c.args.values.now c.loop-value.value-index c.loop-value-test.false in
    (all_read (id_checks c.args.location c.args.name.now) (map meaning) _ _ _ _ c.loop-value.invariant past refl).1

pub loop-value-preserved : goal.loop-value-preserved
loop-value-preserved c =
    let meaning = λ (d : Data). entry_of c.args.kind (text_of d) in
    let next = from_here view c.args.values.now c.loop-value.value-index c.value-item.result c.loop-value-test.true c.value-item.is in
    let rest = map view (drop (c.loop-value.value-index + 1) c.args.values.now) in
    let stands = ap (λ (e : Entry). e ∷ map meaning rest) (sym c.in_ok-entry.ensures.1) in
    one_more (id_checks c.args.location c.args.name.now) (map meaning) _ _ _ _ (view c.value-item.result) _ (c.in_ok-entry.entry ∷ []) _ c.loop-value.invariant next c.in_ok-entry.ensures.0 stands c.in_ok-push.ensures.ok
