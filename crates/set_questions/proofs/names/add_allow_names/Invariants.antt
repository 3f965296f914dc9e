use Rattle.std.proofs.Common.{◌≡◌, ◌++◌, ◌+◌, ◌≤◌, drop, length}
use Rattle.std.specs.Prelude.{sum_by}
use Rattle.set_questions.specs.Requirements.{guard_names}
use Rattle.set_questions.proofs.names.add_allow_names.Given as goal

-- the lists that are there, and those of the guards that are left, are all, and their documents have numbers below 2^32
abbrev pub invariant-loop-guard : goal.invariant-loop-guard
invariant-loop-guard l =
    (l.found ++ guard_names l.next (drop l.guard-index l.guards) ≡ l.fn.found ++ guard_names l.from l.guards)
    × (l.next + sum_by (λ g. length g) (drop l.guard-index l.guards) ≤ 4294967296)
