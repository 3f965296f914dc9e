use Rattle.std.proofs.Common.{◌∙◌, ap, sym}
use Rattle.std.specs.Prelude.{option_map}
use Rattle.command_words.specs.Asked.{asked_in, or_otherwise}
use Rattle.command_words.specs.Named.{named_command}
use Rattle.command_words.proofs.reading.read_named.Goals as goal

pub returns-in-Some-clause-value : goal.returns-in-Some-clause-value
returns-in-Some-clause-value c =
    ap (or_otherwise (named_command c.args.name)) (sym (ap (option_map asked_in) c.in-Some.is) ∙ c.in_ok-command.ensures.value)

pub returns-in-None-clause-value : goal.returns-in-None-clause-value
returns-in-None-clause-value c =
    c.otherwise.ensures.value ∙ ap (or_otherwise (named_command c.args.name)) (sym (ap (option_map asked_in) c.in-None.is) ∙ c.in_ok-command.ensures.value)
