use Rattle.std.proofs.Common.{refl, subst}
use Rattle.refute_check.specs.Proofs.{proof_of}
use Rattle.refute_check.specs.declared.refutation.Refutation.{Refutation}
use Rattle.tree_search.specs.Decisions.{IsDecision}
use Rattle.tree_search.specs.declared.outcome.Decided.{Decided}
use Rattle.certified_summaries.specs.Certified.{IsCertifiedText}
use Rattle.certified_summaries.proofs.Certifying.{certified-said, met-never, splits-said, states-said}
use Rattle.certified_summaries.proofs.certify.certify.Goals as goal

pub decide-requires-clause-suit : goal.decide-requires-clause-suit
decide-requires-clause-suit c = (c.in_ok-query.ensures.askable c.args.subject.now.schema c.args.subject.now.region c.requires.made).suit

pub decide-requires-clause-below : goal.decide-requires-clause-below
decide-requires-clause-below c = (c.in_ok-query.ensures.askable c.args.subject.now.schema c.args.subject.now.region c.requires.made).below

pub returns-in-Refuted : goal.returns-in-Refuted
returns-in-Refuted c =
    let subject = c.args.subject.now in
    let found = c.args.found.now in
    let decided = subst (λ (d : Decided). IsDecision subject.schema c.in_ok-query.query (record { splits = c.args.limits.splits; states = c.args.limits.states }) d) c.in-Refuted.is c.in_ok-refutation.ensures.decision in
    let text = subst (λ (r : Refutation). IsCertifiedText found subject.schema.version (proof_of r) c.in_ok-certified_text-in-Refuted.field-0) c.deref.ensures c.in_ok-certified_text-in-Refuted.ensures in
    certified-said c.args.status c.args.limits subject found.query found c.in_ok-query.query c.requires.made c.in_ok-query.ensures (proof_of c.in-Refuted.refutation.value) decided c.in_ok-certified_text-in-Refuted.field-0 text _ (refl, refl)

pub unreachable-requires : goal.unreachable-requires
unreachable-requires c =
    let subject = c.args.subject.now in
    let decided = subst (λ (d : Decided). IsDecision subject.schema c.in_ok-query.query (record { splits = c.args.limits.splits; states = c.args.limits.states }) d) c.in-Met.is c.in_ok-refutation.ensures.decision in
    met-never c.args.status c.args.limits subject c.args.found.now.query c.args.found.now c.in_ok-query.query c.requires.made c.in_ok-query.ensures c.summaries_cover.ensures c.requires.summary c.in-Met.field-0 decided

pub returns-in-OutOfSplits : goal.returns-in-OutOfSplits
returns-in-OutOfSplits c =
    let subject = c.args.subject.now in
    let decided = subst (λ (d : Decided). IsDecision subject.schema c.in_ok-query.query (record { splits = c.args.limits.splits; states = c.args.limits.states }) d) c.in-OutOfSplits.is c.in_ok-refutation.ensures.decision in
    splits-said c.args.status c.args.limits subject c.args.found.now.query c.args.found.now c.in_ok-query.query c.requires.made c.in_ok-query.ensures decided _ (c.in_ok-cover_splits_line-in-OutOfSplits.ensures, refl)

pub returns : goal.returns
returns c =
    let subject = c.args.subject.now in
    let decided = subst (λ (d : Decided). IsDecision subject.schema c.in_ok-query.query (record { splits = c.args.limits.splits; states = c.args.limits.states }) d) c.in-OutOfStates.is c.in_ok-refutation.ensures.decision in
    states-said c.args.status c.args.limits subject c.args.found.now.query c.args.found.now c.in_ok-query.query c.requires.made c.in_ok-query.ensures c.in-OutOfStates.wide decided _ (c.in_ok-cover_states_line-in-OutOfStates.ensures, refl)
