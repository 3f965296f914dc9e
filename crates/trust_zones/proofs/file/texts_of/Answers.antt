use Rattle.std.proofs.Common.{List, ap, map, drop, ◌+◌, ◌∷◌, ◌∙◌, sym}
use Rattle.std.specs.Str.{chars}
use Rattle.json_shapes.proofs.Laws.{from_end, from_here}
use Rattle.serde_json.specs.Data.{Data}
use Rattle.serde_json.specs.View.{view}
use Rattle.trust_zones.specs.ZoneFiles.{string_of, texts_of}
use Rattle.trust_zones.proofs.Steps.{all-pushed, pushed-next}
use Rattle.trust_zones.proofs.file.texts_of.Goals as goal

pub loop-value-preserved : goal.loop-value-preserved
loop-value-preserved c =
    let texts = λ (ds : List Data). texts_of (map string_of ds) in
    let here = ap texts (from_here view c.args.values.now c.loop-value.value-index c.value-item.result c.loop-value-test.true c.value-item.is) in
    let is = c.in_ok-of.ensures ∙ ap chars c.string_of.ensures in
    pushed-next _ _ (texts (map view (drop (c.loop-value.value-index + 1) c.args.values.now))) c.loop-value.texts c.push.new.self c.in_ok-of.field-0 c.loop-value.invariant
    (here ∙ ap (λ t. t ∷ texts (map view (drop (c.loop-value.value-index + 1) c.args.values.now))) (sym is)) c.in_ok-push.ensures.ok

pub returns : goal.returns
returns c =
    let texts = λ (ds : List Data). texts_of (map string_of ds) in
    all-pushed _ _ c.loop-value.texts c.loop-value.invariant (ap texts (from_end view c.args.values.now c.loop-value.value-index c.loop-value-test.false))
