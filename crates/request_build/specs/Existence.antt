-- Sound schemas permit some request.
use Rattle.policy_model.specs.declared.schema.Schema.{Schema}
use Rattle.policy_model.specs.Requests.{HasValidRequest}
use Rattle.policy_model.specs.Soundness.{SchemaIsSound}

abbrev pub SoundSchemasHaveRequests : Type 0
SoundSchemasHaveRequests = (schema : Schema) → SchemaIsSound schema → HasValidRequest schema
