use Rattle.command_words.proofs.Asking.{named_by, no_command}
use Rattle.command_words.specs.declared.names.CommandName.TheVariants.{Compare, Check, Summary, Eval, Load, Idle, Reach, Emit, CheckSummary, NewAccess, CheckNewAccess}
use Rattle.command_words.proofs.names.command_named.Goals as goal

pub returns-in-compare : goal.returns-in-compare
returns-in-compare c = named_by Compare c.args.word.now c.in-compare.is

pub returns-in-check : goal.returns-in-check
returns-in-check c = named_by Check c.args.word.now c.in-check.is

pub returns-in-summary : goal.returns-in-summary
returns-in-summary c = named_by Summary c.args.word.now c.in-summary.is

pub returns-in-eval : goal.returns-in-eval
returns-in-eval c = named_by Eval c.args.word.now c.in-eval.is

pub returns-in-load : goal.returns-in-load
returns-in-load c = named_by Load c.args.word.now c.in-load.is

pub returns-in-idle : goal.returns-in-idle
returns-in-idle c = named_by Idle c.args.word.now c.in-idle.is

pub returns-in-reach : goal.returns-in-reach
returns-in-reach c = named_by Reach c.args.word.now c.in-reach.is

pub returns-in-emit : goal.returns-in-emit
returns-in-emit c = named_by Emit c.args.word.now c.in-emit.is

pub returns-in-text : goal.returns-in-text
returns-in-text c = named_by CheckSummary c.args.word.now c.in-text.is

pub returns-in-text-2 : goal.returns-in-text-2
returns-in-text-2 c = named_by NewAccess c.args.word.now c.in-text-2.is

pub returns-in-text-3 : goal.returns-in-text-3
returns-in-text-3 c = named_by CheckNewAccess c.args.word.now c.in-text-3.is

pub returns-in_default : goal.returns-in_default
returns-in_default c =
    let is = c.in_default in
    no_command c.args.word.now (is.not-compare, (is.not-check, (is.not-summary, (is.not-eval, (is.not-load, (is.not-idle, (is.not-reach, (is.not-emit, (is.not-text, (is.not-text-2, (is.not-text-3, tt)))))))))))
