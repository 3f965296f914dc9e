use Rattle.std.proofs.Common.{◌≡◌, drop, map}
use Rattle.request_schema.specs.BuiltIn.{keys_of_kind, with_rules}
use Rattle.request_schema.proofs.global_keys.add_keys.Given as goal

abbrev pub invariant-loop-name : goal.invariant-loop-name
invariant-loop-name l = with_rules l.rules (keys_of_kind l.kind l.many (map (λ n. n.now) (drop l.name-index l.names))) ≡ with_rules l.fn.rules (keys_of_kind l.kind l.many (map (λ n. n.now) l.names))
