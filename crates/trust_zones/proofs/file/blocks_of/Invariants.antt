use Rattle.std.proofs.Common.{◌≡◌, ◌++◌, drop, map}
use Rattle.std.specs.List.{filter_map}
use Rattle.serde_json.specs.View.{view}
use Rattle.cidr_bits.specs.Readings.{block_spelled}
use Rattle.trust_zones.specs.ZoneFiles.{string_of}
use Rattle.trust_zones.proofs.file.blocks_of.Given as goal

-- the blocks so far, and those of the strings that are left, are all
abbrev pub invariant-loop-value : goal.invariant-loop-value
invariant-loop-value l = filter_map block_spelled (map string_of (map view l.values)) ≡ l.blocks ++ filter_map block_spelled (map string_of (map view (drop l.value-index l.values)))
