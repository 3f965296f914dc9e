use Rattle.findings.proofs.Lessened.{asks-made}
use Rattle.findings.proofs.Lying.{own-invalid}
use Rattle.findings.proofs.own.is_own.Goals as goal

pub is_own_if_valid-requires-clause-made : goal.is_own_if_valid-requires-clause-made
is_own_if_valid-requires-clause-made c =
    let made = c.requires.made in
    (c.args.validity.now, (made.0, asks-made c.args.validity.now made.0 c.args.base.now c.args.strata.now made.1))

pub returns-then-not-holds : goal.returns-then-not-holds
returns-then-not-holds c =
    own-invalid c.args.validity.now c.args.base.now c.args.strata.now c.args.finding.now c.requires.finding c.args.request.now (λ h. let yes_ = c.holds.ensures.1 h in absurd (cc))

pub returns : goal.returns
returns c = λ region made.
    c.in_ok-own.ensures c.args.validity.now (c.holds.ensures.0 (cc)) region (asks-made c.args.validity.now region c.args.base.now c.args.strata.now made)
