use Rattle.findings.proofs.known.answer_where_failed.Goals as goal

pub returns-then-leads : goal.returns-then-leads
returns-then-leads c = λ r valid failed passes. failed (c.leads.ensures (cc) r valid passes)
