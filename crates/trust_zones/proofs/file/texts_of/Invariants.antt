use Rattle.std.proofs.Common.{◌≡◌, ◌++◌, drop, map}
use Rattle.serde_json.specs.View.{view}
use Rattle.trust_zones.specs.ZoneFiles.{string_of, texts_of}
use Rattle.trust_zones.proofs.file.texts_of.Given as goal

-- the texts so far, and those of the strings that are left, are all
abbrev pub invariant-loop-value : goal.invariant-loop-value
invariant-loop-value l = texts_of (map string_of (map view l.values)) ≡ l.texts ++ texts_of (map string_of (map view (drop l.value-index l.values)))
