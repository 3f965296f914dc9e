-- How much the patterns of this library hold.
use Rattle.std.specs.Prelude.{◌≡◌}
use Rattle.wildcard_lang.specs.declared.pattern.TheConstants.{MOST_PIECES}

-- a pattern has at most 2,048 pieces
abbrev pub PatternLimits : Type 0
PatternLimits = MOST_PIECES ≡ 2048
