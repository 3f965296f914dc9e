use Rattle.std.proofs.Common.{rules}
use Rattle.wildcard_lang.proofs.Ends.{no_characters, last_character}
use Rattle.wildcard_lang.proofs.source.split_last.Goals as goal

pub returns-in_err-c-clause-none : goal.returns-in_err-c-clause-none
returns-in_err-c-clause-none c = search (rules, no_characters)

pub returns-clause-split : goal.returns-clause-split
returns-clause-split c = search (rules, last_character)
