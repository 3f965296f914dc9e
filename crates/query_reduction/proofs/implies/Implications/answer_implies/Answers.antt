use Rattle.query_reduction.proofs.Related.{always_after, always_before, excludes_yes, leads_no, leads_yes, said-so}
use Rattle.query_reduction.proofs.implies.Implications.answer_implies.Goals as goal

pub returns-then-is_certain-clause-implied : goal.returns-then-is_certain-clause-implied
returns-then-is_certain-clause-implied c = λ e.
    let known = c.is_certain.ensures c.if-is_certain.true in
    always_after c.args.self.now.relations c.args.one c.args.other c.args.said c.args.also_said known.0 known.1

pub returns-then-is_certain-2-clause-implied : goal.returns-then-is_certain-2-clause-implied
returns-then-is_certain-2-clause-implied c = λ e.
    let known = c.is_certain-2.ensures c.if-is_certain-2.true in
    always_before c.args.self.now.relations c.args.one c.args.other c.args.said c.args.also_said known.0 known.1

pub returns-in-true-false-clause-implied : goal.returns-in-true-false-clause-implied
returns-in-true-false-clause-implied c = λ e.
    said-so c.args.self.now.relations c.args.one c.args.other c.args.said c.args.also_said _ _ c.in-true-false.is-0 c.in-true-false.is-1
    (excludes_yes c.args.self.now.relations c.args.one c.args.other (c.excludes.ensures.excludes e))

pub returns-in-true-true-clause-implied : goal.returns-in-true-true-clause-implied
returns-in-true-true-clause-implied c = λ e.
    said-so c.args.self.now.relations c.args.one c.args.other c.args.said c.args.also_said _ _ c.in-true-true.is-0 c.in-true-true.is-1
    (leads_yes c.args.self.now.relations c.args.one c.args.other (c.leads.ensures.leads e))

pub returns-in-false-false-clause-implied : goal.returns-in-false-false-clause-implied
returns-in-false-false-clause-implied c = λ e.
    said-so c.args.self.now.relations c.args.one c.args.other c.args.said c.args.also_said _ _ c.in-false-false.is-0 c.in-false-false.is-1
    (leads_no c.args.self.now.relations c.args.one c.args.other (c.leads-in-false-false.ensures.leads e))
