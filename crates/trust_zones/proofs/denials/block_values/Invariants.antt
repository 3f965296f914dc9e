use Rattle.std.proofs.Common.{◌≡◌, take}
use Rattle.trust_zones.specs.Zones.{block_values}
use Rattle.trust_zones.proofs.denials.block_values.Given as goal

abbrev pub invariant-loop-block : goal.invariant-loop-block
invariant-loop-block l = l.values ≡ block_values (take l.block-index l.blocks)
