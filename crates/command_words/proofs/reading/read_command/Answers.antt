use Rattle.std.proofs.Common.{◌≡◌, ◌∙◌, None, Some, ap, sym}
use Rattle.std.specs.Prelude.{option_and_then, option_map}
use Rattle.command_words.proofs.Asking.{answered_by}
use Rattle.command_words.specs.Asked.{asked_of, command_of, texts_in}
use Rattle.command_words.specs.Named.{named_command}
use Rattle.command_words.proofs.reading.read_command.Goals as goal

pub returns-in-Some-clause-value : goal.returns-in-Some-clause-value
returns-in-Some-clause-value c =
    let here : command_of c.args.word.now ≡ Some (named_command c.in-Some.name) = sym c.command_named.ensures ∙ ap (option_map named_command) c.in-Some.is in
    answered_by c.args.word.now (texts_in c.args.words.now) (named_command c.in-Some.name) c.read_named.result here c.read_named.ensures.value

pub returns-in-None-clause-value : goal.returns-in-None-clause-value
returns-in-None-clause-value c =
    let none : None ≡ command_of c.args.word.now = sym (ap (option_map named_command) c.in-None.is) ∙ c.command_named.ensures in
    ap (option_and_then (λ e. asked_of e (texts_in c.args.words.now))) none
