use Rattle.std.proofs.Common.{◌≡◌, drop, fold, map}
use Rattle.clap.specs.Words.{app_of, with_rule}
use Rattle.command_words.specs.Arguments.{argument_rule}
use Rattle.command_words.proofs.forms.with_arguments.Given as goal

abbrev pub invariant-loop-argument : goal.invariant-loop-argument
invariant-loop-argument l = fold with_rule (app_of l.filled) (map argument_rule (drop l.argument-index l.arguments))
    ≡ fold with_rule (app_of l.initial.filled) (map argument_rule l.arguments)
