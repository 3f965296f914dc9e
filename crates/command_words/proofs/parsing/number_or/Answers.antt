use Rattle.std.proofs.Common.{◌∙◌, ap, arith}
use Rattle.std.specs.Option.{option_map_or}
use Rattle.std.specs.Str.Parse.{ExplainsUnsignedError, HasUnsignedDigitsIfOk, ParsesUnsigned}
use Rattle.clap.specs.Words.{found_of, one_text}
use Rattle.clap.proofs.WalkLemmas.{one_text-rows}
use Rattle.command_words.proofs.Readings.{number_or_default}
use Rattle.command_words.specs.Asked.{written_number}
use Rattle.command_words.proofs.parsing.number_or.Goals as goal

pub returns-clause-value : goal.returns-clause-value
returns-clause-value c =
    let found = found_of c.args.matches.now in
    let read = number_or_default _ (λ t r. ParsesUnsigned 32 10 t r × ExplainsUnsignedError 10 t r × HasUnsignedDigitsIfOk t r)
    c.args.most c.args.default (one_text found c.args.id.now) c.get_one.result c.requires.read c.get_one.ensures.none c.get_one.ensures.value
    (λ u x g. g.0) (omega arith) c.requires.least c.requires.most in
    c.unwrap_or.ensures ∙ (read.0 ∙ ap (λ o. option_map_or written_number o c.args.default) (one_text-rows found c.args.id.now))
