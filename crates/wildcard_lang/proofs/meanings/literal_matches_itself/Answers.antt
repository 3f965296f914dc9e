use Rattle.std.proofs.Common.{sym, subst}
use Rattle.wildcard_lang.specs.Matching.{Matches}
use Rattle.wildcard_lang.specs.Reading.{literals}
use Rattle.std.proofs.Common.{false}
use Rattle.wildcard_lang.proofs.Literals.{literal_matches, folded_literal_matches, exact-matched, exact-matches, folded-matched, folded-matches}
use Rattle.wildcard_lang.proofs.meanings.literal_matches_itself.Goals as goal

pub returns-clause-exact : goal.returns-clause-exact
returns-clause-exact c = literal_matches

pub returns-clause-folded : goal.returns-clause-folded
returns-clause-folded c = folded_literal_matches

pub returns-clause-plain : goal.returns-clause-plain
returns-clause-plain c = λ cs t. (exact-matched cs t, λ e. subst (Matches (literals false cs)) (sym e) (exact-matches cs))

pub returns-clause-plain_folded : goal.returns-clause-plain_folded
returns-clause-plain_folded c = λ cs t. (folded-matched cs t, folded-matches cs t)
