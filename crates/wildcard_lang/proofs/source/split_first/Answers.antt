use Rattle.std.proofs.Common.{rules}
use Rattle.std.proofs.lemmas.Str.{chars_past_char}
use Rattle.wildcard_lang.proofs.source.split_first.Goals as goal

pub returns : goal.returns
returns c = search (rules, chars_past_char)
