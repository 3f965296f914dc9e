use Rattle.idle_answers.proofs.printing.told_of_set.Goals as goal

pub new-requires-clause-query : goal.new-requires-clause-query
new-requires-clause-query c = c.requires.query.is

pub uses_told-requires-clause-within : goal.uses_told-requires-clause-within
uses_told-requires-clause-within c = c.requires.query.within

pub returns : goal.returns
returns c = c.in_ok-told.ensures
