use Rattle.read_predicates.proofs.Compared.{schemas-kept}
use Rattle.read_predicates.proofs.keys.known_keys_keep_schemas.Goals as goal

pub returns : goal.returns
returns c = schemas-kept (record { suit = c.tests_of_set_queries_suit.ensures; rules = c.keys_have_their_rules.ensures })
