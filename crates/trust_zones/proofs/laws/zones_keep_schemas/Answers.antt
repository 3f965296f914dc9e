use Rattle.trust_zones.proofs.Inferring.{schemas-kept}
use Rattle.trust_zones.proofs.laws.zones_keep_schemas.Goals as goal

pub returns : goal.returns
returns c = schemas-kept c.keys_have_their_rules.ensures
