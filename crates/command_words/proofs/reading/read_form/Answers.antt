use Rattle.std.proofs.Common.{subst}
use Rattle.std.specs.Prelude.{IfSome}
use Rattle.clap.specs.Words.{IsParsedFrom, app_of}
use Rattle.command_words.proofs.Asking.{asked_none, asked_some}
use Rattle.command_words.proofs.Named.{has_numbers}
use Rattle.command_words.proofs.Simple.{simple_if_named}
use Rattle.command_words.specs.Asked.{texts_in}
use Rattle.command_words.specs.Named.{named_command}
use Rattle.command_words.specs.Parsing.{Parses}
use Rattle.command_words.proofs.reading.read_form.Goals as goal

pub parsed-requires : goal.parsed-requires
parsed-requires c = simple_if_named c.args.name _ c.in_ok-command_form.ensures

pub command_in-requires : goal.command_in-requires
command_in-requires c =
    let form = c.in_ok-command_form.field-0 in
    has_numbers c.args.name form c.in-Some.matches (subst (λ o. IfSome o (IsParsedFrom form)) c.in-Some.is c.in_ok-matches.ensures.from) c.in_ok-command_form.ensures

pub returns-in-Some-clause-value : goal.returns-in-Some-clause-value
returns-in-Some-clause-value c =
    let form = app_of c.in_ok-command_form.field-0 in
    let words = texts_in c.args.words.now in
    asked_some (named_command c.args.name) form words c.in-Some.matches c.command_in.result c.in_ok-command_form.ensures
    (subst (Parses form words) c.in-Some.is c.in_ok-matches.ensures.value) c.command_in.ensures.value

pub returns-in-None-clause-value : goal.returns-in-None-clause-value
returns-in-None-clause-value c =
    let form = app_of c.in_ok-command_form.field-0 in
    let words = texts_in c.args.words.now in
    asked_none (named_command c.args.name) form words c.in_ok-command_form.ensures (subst (Parses form words) c.in-None.is c.in_ok-matches.ensures.value)
