use Rattle.std.proofs.Common.{◌≡◌, ℕ, Bool, false, List, [], Some, take, slice_get}
use Rattle.std.specs.List.{Contains}
use Rattle.cnf_clauses.specs.Propagates.{GoesOn, IsQuiet}
use Rattle.cnf_clauses.specs.Reasons.{Derives}
use Rattle.cnf_clauses.proofs.propagation.settle_short.Given as goal

abbrev pub invariant-short : goal.invariant-short
invariant-short l =
    GoesOn l.clauses l.initial.hints l.initial.decided l.hints l.decided
    × ((i : ℕ) → Contains (take l.number-index l.number-items) i → (c : List (ℕ × Bool)) → slice_get l.clauses i ≡ Some c → IsQuiet [] l.decided c)
    × Derives l.clauses l.initial.hints l.initial.decided l.hints l.decided false
