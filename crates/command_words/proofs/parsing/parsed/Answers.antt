use Rattle.clap.specs.Words.{app_of}
use Rattle.command_words.proofs.Parses.{parses_ok}
use Rattle.command_words.specs.Asked.{texts_in}
use Rattle.command_words.proofs.parsing.parsed.Goals as goal

pub returns-in-Ok-clause-value : goal.returns-in-Ok-clause-value
returns-in-Ok-clause-value c =
    let matches = c.in-Ok.ensures.matches in
    parses_ok (app_of c.args.form) (texts_in c.args.words.now) c.in-Ok.matches c.requires matches c.in-Ok.ensures.kinds
