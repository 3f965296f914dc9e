use Rattle.std.proofs.Common.{◌≡◌, ◌++◌, ◌+◌, ◌≤◌, drop, length}
use Rattle.std.specs.Prelude.{sum_by}
use Rattle.set_questions.specs.Requirements.{names_with}
use Rattle.policy_model.specs.StatementNames.{named_guards}
use Rattle.set_questions.proofs.names.add_guards.Given as goal

-- the names that are there, and those of the guards that are left, are all, and their documents have numbers below 2^32
abbrev pub invariant-loop-guard : goal.invariant-loop-guard
invariant-loop-guard l =
    (l.names ++ names_with l.effect (named_guards l.next (drop l.guard-index l.guards)) ≡ l.fn.names ++ names_with l.effect (named_guards l.from l.guards))
    × (l.next + sum_by (λ g. length g) (drop l.guard-index l.guards) ≤ 4294967296)
