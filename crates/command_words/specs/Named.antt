-- The commands by their names.
use Rattle.command_words.specs.Asked.{NamedCommand, check_command, check_new_access_command, check_summary_command}
use Rattle.command_words.specs.Asked.{compare_command, emit_command, eval_command, idle_command, load_command}
use Rattle.command_words.specs.Asked.{new_access_command, reach_command, summary_command}
use Rattle.command_words.specs.declared.names.CommandName.{CommandName}
use Rattle.command_words.specs.declared.names.CommandName.TheVariants.{Compare, Check, Summary, Eval, Load, Idle, Reach, Emit, CheckSummary, NewAccess, CheckNewAccess}

-- the command of the name
abbrev pub named_command : CommandName → NamedCommand
named_command Compare = compare_command
named_command Check = check_command
named_command Summary = summary_command
named_command Eval = eval_command
named_command Load = load_command
named_command Idle = idle_command
named_command Reach = reach_command
named_command Emit = emit_command
named_command CheckSummary = check_summary_command
named_command NewAccess = new_access_command
named_command CheckNewAccess = check_new_access_command
