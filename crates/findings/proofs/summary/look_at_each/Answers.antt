use Rattle.std.proofs.Common.{arith, refl, subst, sym, ◌∙◌}
use Rattle.std.proofs.lemmas.Result.{err_from_is_err_and}
use Rattle.policy_model.specs.declared.schema.Schema.{Schema}
use Rattle.findings.specs.KnownAnswers.{AreKnownAnswers}
use Rattle.findings.specs.Walked.{IsNextFinding, IsTaken, StandsAt}
use Rattle.findings.proofs.Counted.{no-more-looked}
use Rattle.findings.proofs.Passing.{none-of}
use Rattle.findings.proofs.Summing.{fails-summarised, looked-more, looked-start, next-findings, next-numbered, next-taken, one-too-many}
use Rattle.findings.proofs.summary.look_at_each.Goals as goal

pub findings-init : goal.findings-init
findings-init g c = record {
  walked = looked-start (g.D.Decide.schema c.args.asks.now) c.args.base.now c.args.strata.now c.args.walk.now c.requires.start;
  schema = refl;
  splits = refl;
  states = refl;
}

pub next-requires-clause-findings : goal.next-requires-clause-findings
next-requires-clause-findings g c = next-findings (g.D.Decide.schema c.args.asks.now) c.args.base.now c.args.strata.now c.requires.made c.findings.walk c.findings.invariant.walked.stands

pub next-requires-clause-numbered : goal.next-requires-clause-numbered
next-requires-clause-numbered g c = next-numbered (g.D.Decide.schema c.args.asks.now) c.args.base.now c.args.strata.now c.requires.made

pub returns-in_default-clause-ended : goal.returns-in_default-clause-ended
returns-in_default-clause-ended g c = record {
  before = c.findings.walk;
  stands = c.findings.invariant.walked.stands;
  next = subst (IsNextFinding c.args.strata.now.dimensions c.findings.walk c.next.new.self) (none-of c.in_ok-finding.field-0 c.in_default.not-Some) c.in_ok-finding.ensures.next;
  same = c.in_ok-finding.ensures.same;
}

pub returns-in_default-clause-few : goal.returns-in_default-clause-few
returns-in_default-clause-few g c = no-more-looked c.findings.walk c.next.new.self c.findings.counter c.args.findings (omega (arith, c.findings-test.true)) c.findings.invariant.walked.count c.in_ok-finding.ensures.same

pub look_at-requires-clause-due : goal.look_at-requires-clause-due
look_at-requires-clause-due g c =
    let next = subst (IsNextFinding c.args.strata.now.dimensions c.findings.walk c.next.new.self) c.in-Some.is c.in_ok-finding.ensures.next in
    subst (λ (s : Schema). IsTaken s c.args.base.now c.args.strata.now c.next.new.self c.in-Some.finding) (sym c.findings.invariant.schema)
    (next-taken (g.D.Decide.schema c.args.asks.now) c.args.base.now c.args.strata.now c.findings.walk c.next.new.self c.in-Some.finding c.findings.invariant.walked.stands next c.in_ok-finding.ensures.same)

pub look_at-requires-clause-known : goal.look_at-requires-clause-known
look_at-requires-clause-known g c =
    subst (λ (s : Schema). AreKnownAnswers s c.args.base.now c.args.strata.now c.args.known.now) (sym c.findings.invariant.schema) c.requires.known

pub findings-preserved : goal.findings-preserved
findings-preserved g c = record {
  walked = looked-more (g.D.Decide.schema c.args.asks.now) c.args.base.now c.args.strata.now c.findings.walk c.next.new.self c.look_at.new.self c.in-Some.finding c.findings.counter c.findings.invariant.walked c.in_ok-finding.ensures.same c.in_ok-look_at.ensures.looked
      (subst (λ (s : Schema). StandsAt s c.args.base.now c.args.strata.now c.look_at.new.self) c.findings.invariant.schema c.in_ok-look_at.ensures.stands);
  schema = c.in_ok-look_at.ensures.schema ∙ c.findings.invariant.schema;
  splits = c.in_ok-look_at.ensures.splits ∙ c.findings.invariant.splits;
  states = c.in_ok-look_at.ensures.states ∙ c.findings.invariant.states;
}

pub next-requires-2-clause-findings : goal.next-requires-2-clause-findings
next-requires-2-clause-findings g c = next-findings (g.D.Decide.schema c.args.asks.now) c.args.base.now c.args.strata.now c.requires.made c.findings.walk c.findings.invariant.walked.stands

pub next-requires-2-clause-numbered : goal.next-requires-2-clause-numbered
next-requires-2-clause-numbered g c = next-numbered (g.D.Decide.schema c.args.asks.now) c.args.base.now c.args.strata.now c.requires.made

pub returns-in_err-look_at-clause-fault : goal.returns-in_err-look_at-clause-fault
returns-in_err-look_at-clause-fault g c =
    let p = err_from_is_err_and c.from_residual-in_err-look_at.result c.from_residual-in_err-look_at.ensures.1 in
    let fails = rw (c.findings.invariant.schema, c.findings.invariant.splits, c.findings.invariant.states) at c.in_err-look_at.ensures.fault in
    rw (p.1, p.2) (fails-summarised (g.D.Decide.schema c.args.asks.now) c.args.base.now c.args.strata.now (g.D.Decide.splits c.args.asks.now) (g.D.Decide.states c.args.asks.now) c.args.findings _ fails)

pub returns-clause-ended : goal.returns-clause-ended
returns-clause-ended g c = record {
  before = c.findings.walk;
  stands = c.findings.invariant.walked.stands;
  next = subst (IsNextFinding c.args.strata.now.dimensions c.findings.walk c.next-2.new.self) c.in-None.is c.in_ok-further.ensures.next;
  same = c.in_ok-further.ensures.same;
}

pub returns-clause-few : goal.returns-clause-few
returns-clause-few g c = no-more-looked c.findings.walk c.next-2.new.self c.findings.counter c.args.findings (omega arith) c.findings.invariant.walked.count c.in_ok-further.ensures.same

pub returns-in-Some-further-clause-fault : goal.returns-in-Some-further-clause-fault
returns-in-Some-further-clause-fault g c =
    let next = subst (IsNextFinding c.args.strata.now.dimensions c.findings.walk c.next-2.new.self) c.in-Some-further.is c.in_ok-further.ensures.next in
    one-too-many (g.D.Decide.schema c.args.asks.now) c.args.base.now c.args.strata.now c.findings.walk c.next-2.new.self _ c.findings.counter c.args.findings (g.D.Decide.splits c.args.asks.now) (g.D.Decide.states c.args.asks.now) c.findings.invariant.walked (omega arith) next c.in_ok-further.ensures.same
