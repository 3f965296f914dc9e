use Rattle.std.proofs.lemmas.Map.Iter.{iter_end}
use Rattle.findings.proofs.Passing.{found-all, found-sorted}
use Rattle.findings.proofs.summary.pairs_of.Goals as goal

pub returns-clause-found : goal.returns-clause-found
returns-clause-found c =
    let gives = c.into_iter-numbers-iterator.ensures.into_iter_gives in
    let end = iter_end _ c.args.found.entries c.found.yielded _ _ _ _ gives.0 c.found.yielded_by c.in-None.is c.next.ensures.steps in
    found-all c.found.yielded c.args.found.entries c.found.summary c.found.invariant end.0

pub returns-clause-order : goal.returns-clause-order
returns-clause-order c =
    let gives = c.into_iter-numbers-iterator.ensures.into_iter_gives in
    let end = iter_end _ c.args.found.entries c.found.yielded _ _ _ _ gives.0 c.found.yielded_by c.in-None.is c.next.ensures.steps in
    found-sorted c.args.found.entries c.found.summary (found-all c.found.yielded c.args.found.entries c.found.summary c.found.invariant end.0) gives.5
