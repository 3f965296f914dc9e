use Rattle.std.proofs.Common.{All}
use Rattle.policy_model.specs.Conds.{IsCondOf}
use Rattle.call_cases.proofs.keys.conds_of.Given as goal

abbrev pub invariant-loop-word : goal.invariant-loop-word
invariant-loop-word l = All (IsCondOf l.kind) l.conds
