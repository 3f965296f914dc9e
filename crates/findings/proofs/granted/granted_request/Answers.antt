use Rattle.std.proofs.Common.{subst}
use Rattle.findings.specs.Answers.{AnswersQuery}
use Rattle.findings.proofs.Made.{made-numbered}
use Rattle.findings.proofs.granted.granted_request.Goals as goal

pub lying_query-requires-clause-numbers : goal.lying_query-requires-clause-numbers
lying_query-requires-clause-numbers g c = made-numbered (g.D.Decide.schema c.args.asks.now) c.requires.made.0 c.requires.made.1.base c.args.strata.now c.requires.made.1.made

pub ask-requires : goal.ask-requires
ask-requires g c = record { askable = c.in_ok-query.ensures c.requires.made.1.base (g.D.Decide.schema c.args.asks.now) c.requires.made.0 c.requires.made.1.made }

pub is_own_if_valid-requires-clause-made : goal.is_own_if_valid-requires-clause-made
is_own_if_valid-requires-clause-made g c = (g.D.Decide.schema c.args.asks.now, c.requires.made)

pub returns-then-own-clause-own : goal.returns-then-own-clause-own
returns-then-own-clause-own g c = λ region asks.
    let schema = g.D.Decide.schema c.args.asks.now in
    let met = subst (AnswersQuery schema (g.D.Decide.splits c.args.asks.now) (g.D.Decide.states c.args.asks.now) c.in_ok-query.query) c.in-Met.is c.in_ok-asked.ensures.answer in
    (c.in_ok-own.ensures schema met.valid region asks).0 c.if-own.true
