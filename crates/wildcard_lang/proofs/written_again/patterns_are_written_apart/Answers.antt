use Rattle.wildcard_lang.proofs.ReadAgain.{globs-apart, literals-apart, arns-apart, actions-apart}
use Rattle.wildcard_lang.proofs.written_again.patterns_are_written_apart.Goals as goal

pub returns-clause-globs : goal.returns-clause-globs
returns-clause-globs c = globs-apart

pub returns-clause-literals : goal.returns-clause-literals
returns-clause-literals c = literals-apart

pub returns-clause-arns : goal.returns-clause-arns
returns-clause-arns c = arns-apart

pub returns-clause-actions : goal.returns-clause-actions
returns-clause-actions c = actions-apart
