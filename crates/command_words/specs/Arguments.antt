-- The rules of a command's arguments.
use Rattle.clap.specs.Words.{Rule}
use Rattle.command_words.specs.Forms.{amount_rule, file_rule, flag_rule, name_rule, names_rule, number_rule}
use Rattle.command_words.specs.declared.forms.Argument.{Argument}
use Rattle.command_words.specs.declared.forms.Argument.TheVariants.{Name, Names, Amount, File, Number, Flag}

-- the rule of an argument
abbrev pub argument_rule : Argument → Rule
argument_rule (Name id) = name_rule id.now
argument_rule (Names id) = names_rule id.now
argument_rule (Amount id most) = amount_rule id.now most
argument_rule (File id) = file_rule id.now
argument_rule (Number id most) = number_rule id.now most
argument_rule (Flag id) = flag_rule id.now
