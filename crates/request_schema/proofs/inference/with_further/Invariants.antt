use Rattle.std.proofs.Common.{◌≡◌, drop}
use Rattle.request_schema.specs.BuiltIn.{with_rules}
use Rattle.request_schema.specs.KeyUses.{rules_by}
use Rattle.request_schema.specs.Uses.{uses_found}
use Rattle.request_schema.proofs.inference.with_further.Given as goal

abbrev pub invariant-loop-found : goal.invariant-loop-found
invariant-loop-found l = record {
  version : l.schema.version ≡ l.named.version;
  shapes : l.schema.shapes ≡ l.named.shapes;
  keys : with_rules l.schema.keys (rules_by l.named.keys l.table (uses_found (drop l.found-index l.uses))) ≡ with_rules l.named.keys (rules_by l.named.keys l.table (uses_found l.uses));
}
