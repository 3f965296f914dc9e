use Rattle.findings.proofs.Lying.{own-allowed, own-finer, own-outside}
use Rattle.findings.proofs.Made.{made-numbered}
use Rattle.findings.proofs.own.is_own_if_valid.Goals as goal

pub meets_finer-requires-clause-numbers : goal.meets_finer-requires-clause-numbers
meets_finer-requires-clause-numbers c =
    let made = c.requires.made in
    made-numbered made.0 made.1.0 made.1.1.base c.args.strata.now made.1.1.made

pub is_allowed-requires : goal.is_allowed-requires
is_allowed-requires c = c.requires.made.1.1.is.below

pub returns-then-not-lies_in : goal.returns-then-not-lies_in
returns-then-not-lies_in c = λ schema valid.
    own-outside schema c.args.base.now c.args.strata.now c.args.finding.now c.requires.finding c.args.request.now (λ h. let yes_ = c.lies_in.ensures.1 h in absurd (cc))

pub returns-then-meets_finer : goal.returns-then-meets_finer
returns-then-meets_finer c = λ schema valid.
    own-finer schema c.args.base.now c.args.strata.now c.args.finding.now c.requires.finding c.args.request.now (c.lies_in.ensures.0 (cc)) (c.meets_finer.ensures.0 (cc))

pub returns : goal.returns
returns c = λ schema valid.
    own-allowed schema c.args.base.now c.args.strata.now c.args.finding.now c.requires.finding c.args.request.now c.in_ok-allowed.allowed valid (c.lies_in.ensures.0 (cc)) (λ h. let yes_ = c.meets_finer.ensures.1 h in absurd (cc)) c.in_ok-allowed.ensures
