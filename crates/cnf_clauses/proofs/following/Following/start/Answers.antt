use Rattle.std.proofs.Common.{subst}
use Rattle.std.proofs.lemmas.Option.{MatchOption-at_none, MatchOption-at_some}
use Rattle.formula_tree.specs.Answers.{Answers}
use Rattle.cnf_clauses.specs.Following.{IsConflictAt}
use Rattle.cnf_clauses.proofs.following.Following.start.Goals as goal

pub first_conflict-requires-clause-path : goal.first_conflict-requires-clause-path
first_conflict-requires-clause-path c = c.new-path.ensures

pub first_conflict-requires-clause-trail : goal.first_conflict-requires-clause-trail
first_conflict-requires-clause-trail c = record { decided = c.empty_trail-trail.ensures.decided; reasons = c.empty_trail-trail.ensures.reasons; marks = c.empty_trail-trail.ensures.marks }

pub invariant_of-result : goal.invariant_of-result
invariant_of-result c = MatchOption-at_none _ _ c.in-None.is c.in_ok-conflict.ensures.none

pub returns-in-Some : goal.returns-in-Some
returns-in-Some c =
    subst (λ (p : Answers). IsConflictAt c.args.clauses p c.in-Some.conflict) c.new-path.ensures (MatchOption-at_some _ _ _ c.in-Some.is c.in_ok-conflict.ensures.conflict)
