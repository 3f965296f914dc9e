-- What a parse of a simple command answers.
use Rattle.std.specs.Prelude.{◌≡◌, ℕ, List, [], pos, Option, Some, None, IfSome, codes}
use Rattle.clap.specs.Words.{App, IsSignedIn, Text, fault_of, found_of, matches_of, one_text, rows_of}
use Rattle.clap.specs.declared.parser.matches.ArgMatches.{ArgMatches}
use Rattle.clap.specs.declared.parser.matches.Found.{Found}
use Rattle.command_words.specs.declared.limits.TheConstants.{MOST_FINDINGS, MOST_KEYS, MOST_SPLITS, MOST_STATES}

-- the matches of the words, or none where there is a fault
abbrev pub Parses : App → List Text → Option ArgMatches → Type 0
Parses app words None = ¬ (fault_of app words ≡ [])
Parses app words (Some m) = (fault_of app words ≡ []) × (rows_of (found_of m) ≡ matches_of app words)

-- the text of an option, where it has one, writes a number from 1 to `most`
abbrev pub HasNumberUpTo : Found → Text → ℕ → Type 0
HasNumberUpTo found id most = IfSome (one_text found id) (IsSignedIn (pos 1) (pos most))

-- so it is of each option of numbers that the words may have
pub record HasNumbers (found : Found) : Type 0 where
  pub splits : HasNumberUpTo found (codes "splits") MOST_SPLITS
  pub states : HasNumberUpTo found (codes "states") MOST_STATES
  pub findings : HasNumberUpTo found (codes "findings") MOST_FINDINGS
  pub keys : HasNumberUpTo found (codes "keys") MOST_KEYS
