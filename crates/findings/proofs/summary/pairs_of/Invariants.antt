use Rattle.std.proofs.Common.{◌≡◌, map}
use Rattle.findings.proofs.summary.pairs_of.Given as goal

-- those so far
abbrev pub invariant-found : goal.invariant-found
invariant-found l = l.summary ≡ map (λ p. (p.0.items, p.1)) l.yielded
