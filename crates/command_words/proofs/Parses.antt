-- What a parse of a simple command answers.
use Rattle.std.proofs.Common.{◌≡◌, List, [], true, Some}
use Rattle.clap.specs.declared.parser.matches.ArgMatches.{ArgMatches}
use Rattle.clap.specs.Words.{App, HasMatchesOf, Text, fault_of, is_simple_and_free}
use Rattle.command_words.proofs.Simple.{simple_if_free}
use Rattle.command_words.specs.Parsing.{Parses}

pub parses_ok : (a : App) (words : List Text) (m : ArgMatches) → is_simple_and_free a ≡ true → HasMatchesOf a words m
    → (is_simple_and_free a ≡ true → fault_of a words ≡ []) → Parses a words (Some m)
parses_ok a words m free has fine = (fine free, (has (simple_if_free a free)).0)
