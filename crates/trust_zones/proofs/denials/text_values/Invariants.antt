use Rattle.std.proofs.Common.{◌≡◌, take}
use Rattle.trust_zones.specs.Zones.{text_values}
use Rattle.trust_zones.proofs.denials.text_values.Given as goal

abbrev pub invariant-loop-text : goal.invariant-loop-text
invariant-loop-text l = l.values ≡ text_values (take l.text-index l.texts)
