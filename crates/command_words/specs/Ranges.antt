-- The greatest numbers of a command line, and those that are had unless others are asked for.
use Rattle.std.specs.Prelude.{◌≡◌}
use Rattle.command_words.specs.declared.limits.TheConstants.{MOST_SPLITS, MOST_STATES, DEFAULT_SPLITS, DEFAULT_STATES}
use Rattle.command_words.specs.declared.limits.TheConstants.{MOST_FINDINGS, DEFAULT_FINDINGS, MOST_KEYS, MOST_DIMENSIONS}

-- up to 1,000,000 splits, or 100,000; up to 100,000 states, or 20,000; up to 1,000,000 findings, or 10,000; up to 400 keys; and up
-- to 4 dimensions
pub record WordLimits : Type 0 where
  pub splits : (MOST_SPLITS ≡ 1000000) × (DEFAULT_SPLITS ≡ 100000)
  pub states : (MOST_STATES ≡ 100000) × (DEFAULT_STATES ≡ 20000)
  pub findings : (MOST_FINDINGS ≡ 1000000) × (DEFAULT_FINDINGS ≡ 10000)
  pub keys : MOST_KEYS ≡ 400
  pub dimensions : MOST_DIMENSIONS ≡ 4
