use Rattle.std.proofs.Common.{◌≡◌, take}
use Rattle.std.specs.List.{AllZip}
use Rattle.policy_model.specs.StatementNames.{named_set}
use Rattle.set_questions.specs.Uses.{IsUseOf}
use Rattle.set_questions.proofs.asking.uses.Given as goal

-- one use for each statement so far; who settles queries answers as before
abbrev pub invariant-names : goal.invariant-names
invariant-names g l = record {
  found : AllZip (IsUseOf l.schema (g.S.Settle.splits l.initial.by) (g.S.Settle.states l.initial.by) l.set) (take l.name-index (named_set l.set)) l.found;
  schema : g.S.Settle.schema l.by ≡ g.S.Settle.schema l.initial.by;
  splits : g.S.Settle.splits l.by ≡ g.S.Settle.splits l.initial.by;
  states : g.S.Settle.states l.by ≡ g.S.Settle.states l.initial.by;
}
