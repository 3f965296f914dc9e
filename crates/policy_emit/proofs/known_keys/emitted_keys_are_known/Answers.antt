use Rattle.policy_emit.proofs.KnownKeys.{keys-known}
use Rattle.policy_emit.proofs.known_keys.emitted_keys_are_known.Goals as goal

pub returns : goal.returns
returns c = keys-known c.known_keys_keep_schemas.ensures
