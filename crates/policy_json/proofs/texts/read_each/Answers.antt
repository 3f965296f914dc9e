use Rattle.std.proofs.Common.{◌+◌, ◌∷◌, [], map, drop, refl, sym, ap, List, unwrap_or}
use Rattle.std.specs.List.{flat_map}
use Rattle.wildcard_lang.specs.declared.piece.Piece.{Piece}
use Rattle.serde_json.specs.Data.{Data}
use Rattle.serde_json.specs.View.{view}
use Rattle.policy_json.specs.Texts.{pattern_checks, pieces_of}
use Rattle.json_shapes.proofs.Laws.{all_read, from_end, from_here, one_more, refused_next, refused_whole}
use Rattle.policy_json.proofs.texts.read_each.Goals as goal

pub returns-in_err-pattern : goal.returns-in_err-pattern
returns-in_err-pattern c =
    let checks = pattern_checks c.args.location c.args.name.now c.args.escapes in
    let meaning = λ (d : Data). unwrap_or (pieces_of c.args.fold c.args.escapes d) [] in
    let all = map view c.args.values.now in
    let next = from_here view c.args.values.now c.loop-value.value-index c.value-item.result c.loop-value-test.true c.value-item.is in
    refused_whole {X = List Piece} {Y = List (List Piece)} (checks (view c.value-item.result)) (flat_map checks all) (meaning (view c.value-item.result)) (map meaning all) _ _ c.from_residual.ensures.1
    (λ fault first. refused_next checks (map meaning) [] all _ _ (view c.value-item.result) _ fault c.loop-value.invariant next first) c.in_err-pattern.ensures

pub returns : goal.returns
returns c =
    let checks = pattern_checks c.args.location c.args.name.now c.args.escapes in
    let meaning = λ (d : Data). unwrap_or (pieces_of c.args.fold c.args.escapes d) [] in
    let past = from_end view c.args.values.now c.loop-value.value-index c.loop-value-test.false in
    all_read checks (map meaning) [] _ _ _ c.loop-value.invariant past refl

pub loop-value-preserved : goal.loop-value-preserved
loop-value-preserved c =
    let checks = pattern_checks c.args.location c.args.name.now c.args.escapes in
    let meaning = λ (d : Data). unwrap_or (pieces_of c.args.fold c.args.escapes d) [] in
    let next = from_here view c.args.values.now c.loop-value.value-index c.value-item.result c.loop-value-test.true c.value-item.is in
    let rest = map view (drop (c.loop-value.value-index + 1) c.args.values.now) in
    let stands = ap (λ (p : List Piece). p ∷ map meaning rest) (sym c.in_ok-pattern.ensures.1) in
    one_more checks (map meaning) [] _ _ _ (view c.value-item.result) _ (c.in_ok-pattern.pattern ∷ []) _ c.loop-value.invariant next c.in_ok-pattern.ensures.0 stands c.in_ok-push.ensures.ok
