use Rattle.wildcard_lang.proofs.ReadAgain.{globs-again, literals-again, arns-again, actions-again}
use Rattle.wildcard_lang.proofs.written_again.patterns_are_read_again.Goals as goal

pub returns-clause-globs : goal.returns-clause-globs
returns-clause-globs c = globs-again

pub returns-clause-literals : goal.returns-clause-literals
returns-clause-literals c = literals-again

pub returns-clause-arns : goal.returns-clause-arns
returns-clause-arns c = arns-again

pub returns-clause-actions : goal.returns-clause-actions
returns-clause-actions c = actions-again
