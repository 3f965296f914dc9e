use Rattle.std.proofs.Common.{◌≡◌, take, length}
use Rattle.cnf_clauses.proofs.decided.shorten.Given as goal

abbrev pub invariant-shorten : goal.invariant-shorten
invariant-shorten l = take l.len l.path ≡ take l.len l.initial.path

abbrev pub decreases-shorten : goal.decreases-shorten
decreases-shorten l = length l.path
