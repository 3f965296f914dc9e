use Rattle.std.proofs.Common.{Option, subst, sym, ◌∙◌}
use Rattle.std.specs.Prelude.{IfSome}
use Rattle.std.proofs.lemmas.Result.{IfOk-weaker}
use Rattle.policy_model.specs.declared.request.Request.{Request}
use Rattle.policy_model.specs.declared.schema.Schema.{Schema}
use Rattle.findings.specs.Answers.{QueryIsAskable}
use Rattle.findings.specs.declared.decide.Asked.{Asked}
use Rattle.findings.specs.Asking.{IsOwnOf, IsOwnTold}
use Rattle.findings.specs.RegionQueries.{AsksRegion}
use Rattle.findings.proofs.Barring.{plainly-reducible}
use Rattle.findings.proofs.Lessened.{asks-less, told-answered}
use Rattle.findings.proofs.Plainly.{query-tells}
use Rattle.findings.proofs.query.answer_on.Goals as goal

pub ask-requires : goal.ask-requires
ask-requires g c =
    let askable = c.in_ok-query.ensures.askable (g.D.Decide.schema c.args.asks.now) c.requires.made.0 c.requires.made.1 in
    record { askable = subst (λ (s : Schema). QueryIsAskable s c.in_ok-query.query) (sym (c.short_answer.ensures.schema ∙ c.granted_request.ensures.schema)) askable }

pub returns-then-is_plainly_no-clause-answer : goal.returns-then-is_plainly_no-clause-answer
returns-then-is_plainly_no-clause-answer g c = λ region made.
    plainly-reducible (g.D.Decide.schema c.args.asks.now) region c.args.base.now c.args.strata.now c.args.known.now c.args.finding.now c.in_ok-path.path made c.requires.known c.requires.finding c.in_ok-path.ensures (c.is_plainly_no.ensures (cc))

pub granted_request-requires-clause-made : goal.granted_request-requires-clause-made
granted_request-requires-clause-made g c =
    let made = c.requires.made in
    (made.0, asks-less (g.D.Decide.schema c.args.asks.now) made.0 c.args.base.now c.args.strata.now c.args.known.now made.1 c.requires.known)

pub returns-in-Some-clause-answer : goal.returns-in-Some-clause-answer
returns-in-Some-clause-answer g c = λ region made.
    let schema = g.D.Decide.schema c.args.asks.now in
    let own = subst (λ (o : Option Request). IfSome o (IsOwnOf schema c.args.known.now.less.query c.args.strata.now c.args.finding.now)) c.in-Some.is c.in_ok-request.ensures.own in
    own region (asks-less schema region c.args.base.now c.args.strata.now c.args.known.now made c.requires.known)

pub short_answer-requires-clause-made : goal.short_answer-requires-clause-made
short_answer-requires-clause-made g c =
    let made = c.requires.made in
    let schema = g.D.Decide.schema c.args.asks.now in
    let asks = asks-less schema made.0 c.args.base.now c.args.strata.now c.args.known.now made.1 c.requires.known in
    (made.0, subst (λ (s : Schema). AsksRegion s made.0 c.args.known.now.less.query c.args.strata.now) (sym c.granted_request.ensures.schema) asks)

pub returns-in-Some-2-clause-answer : goal.returns-in-Some-2-clause-answer
returns-in-Some-2-clause-answer g c =
    let schema = g.D.Decide.schema c.args.asks.now in
    let told = subst (λ (s : Schema). IfSome c.in_ok-answer.field-0 (IsOwnTold s c.args.known.now.less.query c.args.strata.now c.args.finding.now)) c.granted_request.ensures.schema c.in_ok-answer.ensures.own in
    told-answered schema (g.D.Decide.splits c.args.asks.now) (g.D.Decide.states c.args.asks.now) c.args.base.now c.args.strata.now c.args.known.now c.args.finding.now c.in-Some-2.answer c.requires.known
    (subst (λ (o : Option Asked). IfSome o (IsOwnTold schema c.args.known.now.less.query c.args.strata.now c.args.finding.now)) c.in-Some-2.is told)

pub returns-clause-answer : goal.returns-clause-answer
returns-clause-answer g c =
    let says = rw (c.short_answer.ensures.schema, c.short_answer.ensures.splits, c.short_answer.ensures.states, c.granted_request.ensures.schema, c.granted_request.ensures.splits, c.granted_request.ensures.states) at c.ask.ensures.answer in
    IfOk-weaker c.ask.result _ _ (λ a h. query-tells (g.D.Decide.schema c.args.asks.now) (g.D.Decide.splits c.args.asks.now) (g.D.Decide.states c.args.asks.now) c.args.base.now c.args.strata.now c.args.finding.now c.in_ok-query.query a
    c.in_ok-query.ensures.plan c.in_ok-query.ensures.own h) says
