use Rattle.wildcard_lang.proofs.runs.first_start.Goals as goal

pub returns-in-Ok-clause-found : goal.returns-in-Ok-clause-found
returns-in-Ok-clause-found g c = c.starts.invariant.same
