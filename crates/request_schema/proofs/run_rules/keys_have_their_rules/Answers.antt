use Rattle.request_schema.specs.RunSchemas.{schema_of_run}
use Rattle.request_schema.specs.Uses.{uses_of}
use Rattle.request_schema.proofs.Further.{run-rule-found}
use Rattle.request_schema.proofs.run_rules.keys_have_their_rules.Goals as goal

pub returns : goal.returns
unfolding schema_of_run
returns c = λ named first second key. run-rule-found named.keys (uses_of first second) key
