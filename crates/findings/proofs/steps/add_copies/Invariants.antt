use Rattle.std.proofs.Common.{◌≡◌, ◌++◌, take}
use Rattle.findings.proofs.steps.add_copies.Given as goal

-- those so far
abbrev pub invariant-more : goal.invariant-more
invariant-more l = l.coming.items ≡ l.initial.coming.items ++ take l.finding-index l.finding-items
