use Rattle.strata.proofs.Gathering.{gathers-put}
use Rattle.strata.proofs.names.add.Goals as goal

pub returns : goal.returns
returns c = gathers-put c.args.names.now.keys c.insert_full.new.self.keys c.args.predicate c.in_ok-insert_full.ensures.keys
