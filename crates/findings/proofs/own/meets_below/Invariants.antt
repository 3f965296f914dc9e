use Rattle.std.proofs.Common.{◌<◌, ℕ, get_or}
use Rattle.strata.specs.Covers.{predicate_at}
use Rattle.strata.specs.Predicates.{MeetsPredicate}
use Rattle.findings.proofs.own.meets_below.Given as goal

-- none of the numbers so far
abbrev pub invariant-below : goal.invariant-below
invariant-below l = (k : ℕ) → k < l.lower-index → ¬ MeetsPredicate l.stratum.slot (predicate_at l.stratum.predicates (get_or l.lower-items k 0)) l.request
