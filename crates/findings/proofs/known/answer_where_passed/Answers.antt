use Rattle.findings.proofs.known.answer_where_passed.Goals as goal

pub returns-then-leads : goal.returns-then-leads
returns-then-leads c = c.leads.ensures (cc)

pub returns-then-excludes : goal.returns-then-excludes
returns-then-excludes c = c.excludes.ensures (cc)
