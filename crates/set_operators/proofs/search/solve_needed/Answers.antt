use Rattle.set_operators.proofs.search.solve_needed.Goals as goal

pub returns-then-rule : goal.returns-then-rule
returns-then-rule c = c.solve_several.ensures

pub returns-else-rule : goal.returns-else-rule
returns-else-rule c = c.solve_single.ensures
