use Rattle.std.proofs.Common.{◌+◌, ◌≤◌, drop, Option, length}
use Rattle.std.specs.Prelude.{sum_by}
use Rattle.policy_model.specs.declared.set.StatementName.{StatementName}
use Rattle.policy_model.specs.StatementNames.{named_guards}
use Rattle.policy_eval.specs.Deciding.{FirstIs}
use Rattle.policy_eval.proofs.first.first_of_guards.Given as goal

-- what is first in the guards that are left is first in all, and their documents have numbers below 2^32
abbrev pub invariant-loop-guard : goal.invariant-loop-guard
invariant-loop-guard l =
    ((o : Option StatementName) → FirstIs l.schema l.allow l.request (named_guards l.next (drop l.guard-index l.guards)) o → FirstIs l.schema l.allow l.request (named_guards l.from l.guards) o)
    × (l.next + sum_by (λ g. length g) (drop l.guard-index l.guards) ≤ 4294967296)
