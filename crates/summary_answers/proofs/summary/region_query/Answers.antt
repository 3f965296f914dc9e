use Rattle.summary_answers.proofs.summary.region_query.Goals as goal

pub returns-in-AllowedBy : goal.returns-in-AllowedBy
returns-in-AllowedBy c = rw c.in-AllowedBy.is c.set_query.ensures

pub returns-in-NewlyAllowed : goal.returns-in-NewlyAllowed
returns-in-NewlyAllowed c = rw c.in-NewlyAllowed.is c.query.ensures
