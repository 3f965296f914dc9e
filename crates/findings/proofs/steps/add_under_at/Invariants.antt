use Rattle.std.proofs.Common.{◌≡◌, ◌++◌, map, set, take}
use Rattle.findings.proofs.steps.add_under_at.Given as goal

-- those of the numbers so far
abbrev pub invariant-under : goal.invariant-under
invariant-under l = l.coming.items ≡ l.initial.coming.items ++ map (set l.finding l.i) (take l.lower-index l.lower-items)
