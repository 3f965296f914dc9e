use Rattle.findings.proofs.Inside.{marked-kept, open-findings}
use Rattle.findings.proofs.inhabited.Samples.ask.Goals as goal

pub ask_inside-requires-clause-findings : goal.ask_inside-requires-clause-findings
ask_inside-requires-clause-findings g c = open-findings c.args.strata.now.dimensions c.args.under.now (c.in_ok-open.open, c.in_ok-open.marked) c.requires.under c.in_ok-open.ensures

pub returns-in-Nobody-clause-kept : goal.returns-in-Nobody-clause-kept
returns-in-Nobody-clause-kept g c =
    marked-kept (g.D.Decide.schema c.args.asks.now) c.args.base.now c.args.strata.now c.args.under.now (c.in_ok-open.open, c.in_ok-open.marked) c.in_ok-asked.asked c.in_ok-open.ensures c.in_ok-asked.ensures.nobody c.in-Nobody.is
