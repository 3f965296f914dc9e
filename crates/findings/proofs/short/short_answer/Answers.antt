use Rattle.findings.proofs.Lessened.{own-told}
use Rattle.findings.proofs.short.short_answer.Goals as goal

pub own_query-requires-clause-made : goal.own_query-requires-clause-made
own_query-requires-clause-made g c = (g.D.Decide.schema c.args.asks.now, c.requires.made)

pub ask-requires : goal.ask-requires
ask-requires g c = record { askable = c.in_ok-query.ensures.askable (g.D.Decide.schema c.args.asks.now) c.requires.made.0 c.requires.made.1 }

pub returns-clause-own : goal.returns-clause-own
returns-clause-own g c =
    own-told (g.D.Decide.schema c.args.asks.now) (g.D.Decide.splits c.args.asks.now) (g.D.Decide.states c.args.asks.now) c.args.less.now c.args.strata.now c.args.finding.now c.in_ok-query.query c.in_ok-asked.asked c.told.result
    c.in_ok-query.ensures c.in_ok-asked.ensures.answer c.told.ensures
