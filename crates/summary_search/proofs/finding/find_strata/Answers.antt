use Rattle.summary_search.proofs.Coming.{suits}
use Rattle.summary_search.proofs.finding.find_strata.Goals as goal

pub strata_of-requires-clause-suit : goal.strata_of-requires-clause-suit
strata_of-requires-clause-suit c = suits c.tests_of_set_queries_suit.ensures c.tests_of_queries_suit.ensures c.args.schema.now c.requires.region.0 c.args.query.now c.requires.region.1
