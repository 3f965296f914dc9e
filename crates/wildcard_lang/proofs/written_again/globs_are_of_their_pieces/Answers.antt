use Rattle.wildcard_lang.proofs.ReadAgain.{globs-pieces, literals-globs, arns-globs}
use Rattle.wildcard_lang.proofs.written_again.globs_are_of_their_pieces.Goals as goal

pub returns-clause-globs : goal.returns-clause-globs
returns-clause-globs c = globs-pieces

pub returns-clause-literals : goal.returns-clause-literals
returns-clause-literals c = literals-globs

pub returns-clause-arns : goal.returns-clause-arns
returns-clause-arns c = arns-globs
