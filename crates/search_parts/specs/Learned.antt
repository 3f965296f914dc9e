-- How much is learned, in numbers.
use Rattle.std.specs.Prelude.{◌≡◌}
use Rattle.search_parts.specs.declared.learning.TheConstants.{MOST_LEARNED}

-- at most 20,000 splits are learned
abbrev pub SearchLimits : Type 0
SearchLimits = MOST_LEARNED ≡ 20000
