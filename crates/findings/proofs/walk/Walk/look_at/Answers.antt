use Rattle.std.proofs.Common.{subst, sym}
use Rattle.std.proofs.lemmas.List.Elements.{Contains-push}
use Rattle.policy_model.specs.declared.schema.Schema.{Schema}
use Rattle.findings.specs.Asking.{DecidesWhose}
use Rattle.findings.specs.KnownAnswers.{IsMetTable}
use Rattle.findings.specs.RegionQueries.{AsksSomeRegion}
use Rattle.findings.specs.Walked.{GoesBelow}
use Rattle.findings.proofs.Lessened.{asks-less}
use Rattle.findings.proofs.Looking.{stands-found, stands-reducible, taken-must}
use Rattle.findings.proofs.Made.{made-numbered, made-steps}
use Rattle.findings.proofs.walk.Walk.look_at.Goals as goal

pub answer_on-requires-clause-finding : goal.answer_on-requires-clause-finding
answer_on-requires-clause-finding g c =
    let taken = c.requires.due c.requires.made.0 c.requires.made.1 in
    taken.walk.next c.args.finding (Contains-push c.args.self.now.coming.items c.args.finding)

pub go_below-requires-clause-made : goal.go_below-requires-clause-made
go_below-requires-clause-made g c =
    let made = c.requires.made in
    let asks = asks-less (g.D.Decide.schema c.args.asks.now) made.0 c.args.base.now c.args.strata.now c.args.known.now made.1 c.requires.known in
    subst (λ (s : Schema). AsksSomeRegion s c.args.known.now.less.query c.args.strata.now) (sym c.answer_on.ensures.schema) (made.0, asks)

pub go_below-requires-clause-known : goal.go_below-requires-clause-known
go_below-requires-clause-known g c = subst (λ (s : Schema). IsMetTable s c.args.strata.now c.args.known.now) (sym c.answer_on.ensures.schema) c.requires.known.met

pub go_below-requires-clause-finding : goal.go_below-requires-clause-finding
go_below-requires-clause-finding g c =
    let taken = c.requires.due c.requires.made.0 c.requires.made.1 in
    taken.walk.next c.args.finding (Contains-push c.args.self.now.coming.items c.args.finding)

pub go_below-requires-clause-numbered : goal.go_below-requires-clause-numbered
go_below-requires-clause-numbered g c = made-numbered (g.D.Decide.schema c.args.asks.now) c.requires.made.0 c.args.base.now c.args.strata.now c.requires.made.1

pub returns-in-OutOfSplits-clause-fault : goal.returns-in-OutOfSplits-clause-fault
returns-in-OutOfSplits-clause-fault g c = λ region made.
    let schema = g.D.Decide.schema c.args.asks.now in
    let steps = made-steps schema region c.args.base.now c.args.strata.now made in
    let told = subst (DecidesWhose schema region c.args.strata.now.dimensions (g.D.Decide.splits c.args.asks.now) (g.D.Decide.states c.args.asks.now) c.args.finding) c.in-OutOfSplits.is (c.in_ok-answer.ensures.answer region made) in
    record {
      visited = taken-must schema region c.args.strata.now.dimensions steps c.args.self.now c.args.finding (c.requires.due region made);
      query = told.query;
      is = told.is;
      fails = told.holds;
    }

pub returns-in-OutOfStates-clause-fault : goal.returns-in-OutOfStates-clause-fault
returns-in-OutOfStates-clause-fault g c = λ region made.
    let schema = g.D.Decide.schema c.args.asks.now in
    let steps = made-steps schema region c.args.base.now c.args.strata.now made in
    let told = subst (DecidesWhose schema region c.args.strata.now.dimensions (g.D.Decide.splits c.args.asks.now) (g.D.Decide.states c.args.asks.now) c.args.finding) c.in-OutOfStates.is (c.in_ok-answer.ensures.answer region made) in
    record {
      visited = taken-must schema region c.args.strata.now.dimensions steps c.args.self.now c.args.finding (c.requires.due region made);
      query = told.query;
      is = told.is;
      fails = told.holds;
    }

pub returns-in_ok-add_found-in-Met-clause-looked : goal.returns-in_ok-add_found-in-Met-clause-looked
returns-in_ok-add_found-in-Met-clause-looked g c =
    let taken = c.requires.due c.requires.made.0 c.requires.made.1 in
    c.in_ok-add_found-in-Met.ensures.looked taken.due.new

pub returns-in_ok-add_found-in-Met-clause-stands : goal.returns-in_ok-add_found-in-Met-clause-stands
returns-in_ok-add_found-in-Met-clause-stands g c = λ region made.
    let schema = g.D.Decide.schema c.args.asks.now in
    let steps = made-steps schema region c.args.base.now c.args.strata.now made in
    let told = subst (DecidesWhose schema region c.args.strata.now.dimensions (g.D.Decide.splits c.args.asks.now) (g.D.Decide.states c.args.asks.now) c.args.finding) c.in-Met.is (c.in_ok-answer.ensures.answer region made) in
    stands-found schema region c.args.strata.now.dimensions steps c.args.self.now c.add_found.new.self c.args.finding c.in-Met.request (c.requires.due region made) told c.in_ok-add_found-in-Met.ensures

pub returns-in_ok-go_below-in-Nobody-clause-looked : goal.returns-in_ok-go_below-in-Nobody-clause-looked
returns-in_ok-go_below-in-Nobody-clause-looked g c =
    let taken = c.requires.due c.requires.made.0 c.requires.made.1 in
    let below = subst (λ (s : Schema). GoesBelow s c.args.known.now c.args.strata.now c.args.self.now c.args.finding c.go_below.new.self) c.answer_on.ensures.schema c.in_ok-go_below-in-Nobody.ensures.below in
    let asks = asks-less (g.D.Decide.schema c.args.asks.now) c.requires.made.0 c.args.base.now c.args.strata.now c.args.known.now c.requires.made.1 c.requires.known in
    (below c.requires.made.0 asks).adds.looked taken.due.new

pub returns-in_ok-go_below-in-Nobody-clause-stands : goal.returns-in_ok-go_below-in-Nobody-clause-stands
returns-in_ok-go_below-in-Nobody-clause-stands g c = λ region made.
    let schema = g.D.Decide.schema c.args.asks.now in
    let steps = made-steps schema region c.args.base.now c.args.strata.now made in
    let told = subst (DecidesWhose schema region c.args.strata.now.dimensions (g.D.Decide.splits c.args.asks.now) (g.D.Decide.states c.args.asks.now) c.args.finding) c.in-Nobody.is (c.in_ok-answer.ensures.answer region made) in
    let below = subst (λ (s : Schema). GoesBelow s c.args.known.now c.args.strata.now c.args.self.now c.args.finding c.go_below.new.self) c.answer_on.ensures.schema c.in_ok-go_below-in-Nobody.ensures.below in
    stands-reducible schema region c.args.strata.now.dimensions steps c.args.self.now c.go_below.new.self c.args.finding (c.requires.due region made) told (below region (asks-less schema region c.args.base.now c.args.strata.now c.args.known.now made c.requires.known))
