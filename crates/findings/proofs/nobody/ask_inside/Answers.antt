use Rattle.std.proofs.lemmas.Result.{IfOk-weaker}
use Rattle.findings.proofs.Inside.{told-nobody}
use Rattle.findings.proofs.nobody.ask_inside.Goals as goal

pub ask-requires : goal.ask-requires
ask-requires g c = record { askable = c.in_ok-query.ensures.askable (g.D.Decide.schema c.args.asks.now) c.requires.made.0 c.requires.made.1 }

pub returns-clause-nobody : goal.returns-clause-nobody
returns-clause-nobody g c =
    IfOk-weaker c.ask.result _ _ (λ a says. told-nobody (g.D.Decide.schema c.args.asks.now) c.args.base.now c.args.strata.now c.args.findings.now c.in_ok-query.query (g.D.Decide.splits c.args.asks.now) (g.D.Decide.states c.args.asks.now) a c.in_ok-query.ensures says) c.ask.ensures.answer
