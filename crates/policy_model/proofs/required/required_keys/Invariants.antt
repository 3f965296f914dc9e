use Rattle.policy_model.proofs.Requiring.{AreListed}
use Rattle.policy_model.proofs.required.required_keys.Given as goal

-- the names so far, and those of the entries that are left
abbrev pub invariant-loop-key : goal.invariant-loop-key
invariant-loop-key l = AreListed l.schema.keys l.names l.key-iterator
