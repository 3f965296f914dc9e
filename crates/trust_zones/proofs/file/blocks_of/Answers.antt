use Rattle.std.proofs.Common.{List, ap, map}
use Rattle.json_shapes.proofs.Laws.{from_end}
use Rattle.serde_json.specs.Data.{Data}
use Rattle.serde_json.specs.View.{view}
use Rattle.std.specs.List.{filter_map}
use Rattle.cidr_bits.specs.Readings.{block_spelled}
use Rattle.trust_zones.specs.ZoneFiles.{string_of}
use Rattle.trust_zones.proofs.Steps.{all-pushed}
use Rattle.trust_zones.proofs.file.blocks_of.Goals as goal

pub returns : goal.returns
returns c =
    let blocks = λ (ds : List Data). filter_map block_spelled (map string_of ds) in
    all-pushed _ _ c.loop-value.blocks c.loop-value.invariant (ap blocks (from_end view c.args.values.now c.loop-value.value-index c.loop-value-test.false))
