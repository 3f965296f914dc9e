use Rattle.wildcard_lang.proofs.ReadAgain.{globs-with_escapes, literals-with_escapes, arns-with_escapes}
use Rattle.wildcard_lang.proofs.written_again.patterns_are_found_with_escapes.Goals as goal

pub returns-clause-globs : goal.returns-clause-globs
returns-clause-globs c = globs-with_escapes

pub returns-clause-literals : goal.returns-clause-literals
returns-clause-literals c = literals-with_escapes

pub returns-clause-arns : goal.returns-clause-arns
returns-clause-arns c = arns-with_escapes
