use Rattle.std.proofs.Common.{map, take, Some, ◌∙◌}
use Rattle.cnf_clauses.proofs.Extending.{extends-by}
use Rattle.cnf_clauses.proofs.trail.note_each.Goals as goal

pub returns-in_err-push-clause-kept : goal.returns-in_err-push-clause-kept
returns-in_err-push-clause-kept c =
    extends-by c.args.reasons.now.items _ (map Some (take c.numbers.number-index c.args.numbers.now)) (c.in_err-push.ensures.items ∙ c.numbers.invariant)
